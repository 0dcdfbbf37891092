-- Proved: how ends of a script follow from each other.
use Rattle.std.proofs.Common.{◌≡◌, ℕ, ◌+◌, List, ◌∷◌, drop, refl, sym, ap, ◌∙◌}
use Rattle.std.proofs.lemmas.List.{drop-drop}
use Rattle.script.specs.Ends.{IsEnd}

-- all of it is left
pub end_whole : (s : List ℕ) → IsEnd s s
end_whole s = record { taken = 0; rest = refl }

-- what is left of what is left
pub end_of_end : (s left last : List ℕ) → IsEnd last left → IsEnd left s → IsEnd last s
end_of_end s left last g f =
    record { taken = f.taken + g.taken; rest = g.rest ∙ ap (drop g.taken) f.rest ∙ drop-drop g.taken f.taken s }

pub end_behind : (s left : List ℕ) (n : ℕ) → left ≡ drop n s → IsEnd left s
end_behind s left n is = record { taken = n; rest = is }

pub end_behind_first : (s left : List ℕ) (x : ℕ) → s ≡ x ∷ left → IsEnd left s
end_behind_first s left x is = record { taken = 1; rest = sym (ap (drop 1) is) }
