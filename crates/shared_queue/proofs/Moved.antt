-- Changes of the shared run list, one after another.
use Rattle.std.proofs.Common.{refl, ◌∙◌, arith}
use Rattle.shared_queue.specs.Sharing.{Sharing, Moves}

pub moves_none : (q : Sharing) → Moves q q
moves_none q = record {
  ranks = refl;
  depth = refl;
  others = record { roots = refl; entries = refl; others = λ other ne. refl };
  arrivals = refl;
}

pub moves_more : (a b d : Sharing) → Moves a b → Moves b d → Moves a d
moves_more a b d x y =
    let before = x.arrivals in
    let after = y.arrivals in
    record {
      ranks = y.ranks ∙ x.ranks;
      depth = y.depth ∙ x.depth;
      others = record {
        roots = y.others.roots ∙ x.others.roots;
        entries = y.others.entries ∙ x.others.entries;
        others = λ other ne. y.others.others other ne ∙ x.others.others other ne;
      };
      arrivals = omega arith;
    }
