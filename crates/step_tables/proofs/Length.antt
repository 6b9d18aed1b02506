-- The limit of bytes: a text that is read has no more, and what stands behind the byte past the limit counts for nothing.
use Rattle.std.proofs.Common.{◌≡◌, ℕ, suc, [], ◌+◌, ◌≤◌, ◌<◌, lit≤, List, length, take, ap, sym, ◌∙◌, arith, ⊎_elim}
use Rattle.std.specs.Prelude.{Ok, slice_index_or, unwrap_or}
use Rattle.std.proofs.lemmas.Bool.{cases_lt}
use Rattle.std.proofs.lemmas.List.{take_all, take-take}
use Rattle.text_lines.specs.Lines.{read_within}
use Rattle.text_lines.proofs.LongTexts.{long_text, within_limit}
use Rattle.step_tables.specs.declared.tables.Script.{Script}
use Rattle.step_tables.specs.Limits.{newest, limits_of}
use Rattle.step_tables.specs.Words.{pieces}
use Rattle.step_tables.specs.Text.{script_text}
use Rattle.step_tables.specs.Judging.{scripts, nothing, script_read, script_within, script_of, version_of, version_in, most_bytes, byte_limit}
use Rattle.step_tables.proofs.Bounds.{bytes_most}
use Rattle.step_tables.proofs.ReadBack.{read_back_from, within_back}

-- what stands behind the byte past a limit counts for nothing
cut_within : (limit : ℕ) (bytes : List ℕ) → script_within limit (take (limit + 1) bytes) ≡ script_within limit bytes
cut_within limit bytes = ⊎_elim long short (cases_lt limit (length bytes))
  where
    long : limit < length bytes → script_within limit (take (limit + 1) bytes) ≡ script_within limit bytes
    long past = let next : limit + 1 ≡ suc limit = omega arith in ap (λ k. script_within limit (take k bytes)) next ∙ sym (ap script_read (long_text scripts nothing limit bytes past))

    short : length bytes ≤ limit → script_within limit (take (limit + 1) bytes) ≡ script_within limit bytes
    short few = ap (script_within limit) (take_all (limit + 1) bytes (omega arith))

-- the script of a text is that of the whole text
pub whole_text : (bytes : List ℕ) → script_of bytes ≡ script_within (most_bytes bytes) bytes
unfolding script_of
whole_text bytes = cut_within (most_bytes bytes) bytes

pub read_length : (bytes : List ℕ) (s : Script) → script_of bytes ≡ Ok s → length bytes ≤ most_bytes bytes
read_length bytes s e =
    let (q, is, same) = read_back_from (read_within scripts nothing (most_bytes bytes) bytes) s (sym (whole_text bytes) ∙ e) in
    within_limit scripts nothing q (most_bytes bytes) bytes is

-- a text that is read is the text of its script, and within the limit
pub read_back : (bytes : List ℕ) (s : Script) → script_of bytes ≡ Ok s → (bytes ≡ script_text s) × (length bytes ≤ most_bytes bytes)
read_back bytes s e = ((within_back (most_bytes bytes) bytes s (sym (whole_text bytes) ∙ e)).1, read_length bytes s e)

-- no byte further behind the limit counts
pub read_cut : (bytes : List ℕ) → script_of (take (byte_limit + 1) bytes) ≡ script_of bytes
unfolding version_in
read_cut bytes =
    let top = most_bytes bytes in
    let front = take (byte_limit + 1) bytes in
    let same : most_bytes front ≡ top = ap (λ b. (limits_of (unwrap_or (version_of (slice_index_or (pieces 10 b) 0 [])) newest)).bytes) (take-take 13 (byte_limit + 1) bytes (lit≤ tt)) in
    whole_text front ∙ ap (λ m. script_within m front) same ∙ sym (cut_within top front)
    ∙ ap (script_within top) (take-take (top + 1) (byte_limit + 1) bytes (bytes_most (version_in bytes))) ∙ cut_within top bytes ∙ sym (whole_text bytes)
