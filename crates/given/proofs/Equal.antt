-- Proved: the derived `==` on layouts decides whether two layouts are the same value.
use mathlib.Core.Path.{◌≡◌, refl}
use mathlib.Core.Bool.{Bool, true, false}
use Rattle.std.specs.Bool.{Decides}
use Rattle.std.specs.Prelude.{◌==◌, ◌&&◌}
use lib.Pointwise.{pointwise}
use Rattle.std.proofs.lemmas.Bool.Decides.{not_from_Decides, Decides-like, Decides-and, Decides-eqb}
use Rattle.std.proofs.lemmas.Slice.Eq.{slice_eq-Decides}
use Rattle.groups.specs.declared.Group.{Group}
use Rattle.groups.specs.declared.Layout.{Layout}
use Rattle.given.specs.Given.{Tells}

-- what the derived `==` asks of two groups
abbrev group_same : Group → Group → Bool
group_same a b =
    a.h == b.h && (a.d == b.d && (a.len == b.len && (a.row == b.row && (a.first == b.first && (a.redundant == b.redundant && (a.size == b.size && a.count == b.count))))))

-- and of two layouts
abbrev pub layout_same : Layout → Layout → Bool
layout_same a b = a.groups == b.groups && (pointwise group_same a.list b.list && (a.k == b.k && a.r == b.r))

group_decides : (a b : Group) → Decides (group_same a b) (a ≡ b)
group_decides a b =
    Decides-like _
    (λ p.
    let q = p.1.1.1 in
    λ i.
    record { h = p.0 i; d = p.1.0 i; len = p.1.1.0 i; row = q.0 i; first = q.1.0 i; redundant = q.1.1.0 i; size = q.1.1.1.0 i; count = q.1.1.1.1 i })
    (λ e.
    (λ i. (e i).h, (λ i. (e i).d, (λ i. (e i).len, (λ i. (e i).row, (λ i. (e i).first, (λ i. (e i).redundant, (λ i. (e i).size, λ i. (e i).count))))))))
    (Decides-and _ _ (Decides-eqb a.h b.h) (Decides-and _ _ (Decides-eqb a.d b.d) (Decides-and _ _ (Decides-eqb a.len b.len)
    (Decides-and _ _ (Decides-eqb a.row b.row) (Decides-and _ _ (Decides-eqb a.first b.first) (Decides-and _ _ (Decides-eqb a.redundant b.redundant)
    (Decides-and _ _ (Decides-eqb a.size b.size) (Decides-eqb a.count b.count))))))))

layout_decides : (a b : Layout) → Decides (layout_same a b) (a ≡ b)
layout_decides a b =
    Decides-like _
    (λ p. λ i. record { groups = p.0 i; list = p.1.0 i; k = p.1.1.0 i; r = p.1.1.1 i })
    (λ e. (λ i. (e i).groups, (λ i. (e i).list, (λ i. (e i).k, λ i. (e i).r))))
    (Decides-and _ _ (Decides-eqb a.groups b.groups) (Decides-and _ _ (slice_eq-Decides group_decides a.list b.list _ refl)
    (Decides-and _ _ (Decides-eqb a.k b.k) (Decides-eqb a.r b.r))))

decided : {P : Type 0} (t : Bool) → Decides t P → Tells t P
decided true d = d.0 refl
decided false d = not_from_Decides false d refl

-- `==` tells whether two layouts are the same
pub same_told : (a b : Layout) (t : Bool) → t ≡ layout_same a b → Tells t (a ≡ b)
same_told a b t e = decided t (rw e (layout_decides a b))
