use Rattle.task_machine.proofs.Replies.{IsReply-reply_of, IsReply-unique}
use Rattle.task_machine.proofs.laws.calls_have_one_reply.Goals as goal

pub returns : goal.returns
returns c = λ s k call. (IsReply-reply_of s k call, IsReply-unique s k call)
