-- Proved: what the running totals are where a group is entered, and that the code enters a group and ends a branch as the definitions say.
use Prim.Native.Nat.{ℕ, ◌+◌, ◌-◌, ◌≤◌, ◌<◌}
use mathlib.Core.Path.{◌≡◌, refl, sym, ◌∙◌, ap}
use native.Mathlib.Omega.{arith}
use lib.ListN.{set}
use Rattle.groups.specs.declared.Layout.{Layout}
use Rattle.groups.specs.declared.State.{State}
use Rattle.groups.specs.declared.Fault.{Fault}
use Rattle.groups.specs.declared.Fault.TheVariants.{End, Kind, Body, Extra, Bounds}
use Rattle.std.specs.Prelude.{Result, Err, MatchResult}
use Rattle.std.specs.Result.{IsErrAnd}
use Rattle.std.proofs.lemmas.Result.{err_from_is_err_and, MatchResult-weaker}
use Rattle.groups.specs.Groups.{number, if_lt, group_at, bound_passed, refused_at, grown, entered, closed}
use Rattle.groups.proofs.Picks.{lt_no, eq_yes, eq_no, by_lt, by_eq}

-- the running totals allow one group more
pub record Room (level rows h d : ℕ) (l : Layout) : Type 0 where
  pub groups : l.groups ≤ 15
  pub deep : level ≤ 4
  pub path : rows + h ≤ 16
  pub datas : l.k + d ≤ 32
  pub blocks : l.k + d + l.r + h ≤ 48

pub room_left : (level rows h d : ℕ) (l : Layout) → bound_passed level rows h d l ≡ 0 → Room level rows h d l
unfolding bound_passed
room_left level rows h d l =
    by_lt P _ _ (λ a z. absurd (omega arith))
    (λ a. by_lt P _ _ (λ b z. absurd (omega arith))
    (λ b. by_lt P _ _ (λ c z. absurd (omega arith))
    (λ c. by_lt P _ _ (λ e z. absurd (omega arith))
    (λ e. by_lt P _ _ (λ f z. absurd (omega arith)) (λ f z. omega arith)))))
  where
    P : ℕ → Type 0
    P n = n ≡ 0 → Room level rows h d l

pub room_enough : (level rows h d : ℕ) (l : Layout) → Room level rows h d l → 0 ≡ bound_passed level rows h d l
unfolding bound_passed
room_enough level rows h d l r =
    lt_no _ (omega arith) (lt_no _ r.deep (lt_no _ r.path (lt_no _ r.datas (lt_no _ r.blocks refl))))

-- a group that is entered without a fault
pub room : (level rows h d len step : ℕ) (w : State) → (entered level rows h d len step w).fault ≡ 0 →
    Room level rows h d w.lay × (entered level rows h d len step w ≡ grown rows h d len step w)
unfolding entered
room level rows h d len step w =
    by_eq P _ _ (λ e z. (room_left level rows h d w.lay e, refl)) (λ n z. absurd (n z))
  where
    P : State → Type 0
    P v = v.fault ≡ 0 → Room level rows h d w.lay × (v ≡ grown rows h d len step w)

-- and a group for which there is room is entered
pub entered_is : (level rows h d len step : ℕ) (w : State) → Room level rows h d w.lay → grown rows h d len step w ≡ entered level rows h d len step w
unfolding entered
entered_is level rows h d len step w r = eq_yes _ (sym (room_enough level rows h d w.lay r)) refl

-- what `?` passes on of an error
pub passed_on : {T E : Type 0} (r : Result T E) (e : E) → IsErrAnd r (λ y. y ≡ e) → r ≡ Err e
passed_on r e p = let s = err_from_is_err_and r p in rw (s.1, s.2) refl

-- ---- the bounds, as the code checks them: b is what passing them comes to

-- a bound that is passed is told, whatever was found before it
pub whatever : (a b : ℕ) {y : ℕ} → y ≡ 5 → if_lt a b 5 y ≡ 5
whatever a b p = by_lt (λ (z : ℕ). z ≡ 5) a b (λ h. refl) (λ h. p)

module _ (b : ℕ) (r : Result (Unit {0}) Fault) where
  -- a check that fails is passed on
  pub check_stops : (e : Fault) → IsErrAnd r (λ y. y ≡ e) → e ≡ Bounds → b ≡ 5 → MatchResult r (λ u. b ≡ 0) (λ y. b ≡ number y)
  check_stops e p q h = rw (passed_on r e p, q) h

  -- the last check
  pub check_ends : (n m : ℕ) → MatchResult r (λ u. n ≤ m) (λ y. (y ≡ Bounds) × (m < n)) → (n ≤ m → b ≡ 0) → (m < n → b ≡ 5) → MatchResult r (λ u. b ≡ 0) (λ y. b ≡ number y)
  check_ends n m p f g = MatchResult-weaker r p (λ u q. f q) (λ y q. g q.1 ∙ ap number (sym q.0))

-- ---- entering a group, as the code does it: `count`, `datas` and `redundants` are the widened d and h

pub enter_room : (level rows h d : ℕ) (l : Layout) → bound_passed level rows h d l ≡ 0 → l.groups < 16
enter_room level rows h d l z = let r = room_left level rows h d l z in omega (arith, r.groups)

pub number_some : (f : Fault) → number f ≡ 0 → ⊥
number_some End z = omega arith
number_some Kind z = omega arith
number_some Body z = omega arith
number_some Extra z = omega arith
number_some Bounds z = omega arith

module _ (level rows h d len step : ℕ) (w : State) where
  pub enter_stops : (f : Fault) (v : State) → bound_passed level rows h d w.lay ≡ number f → v ≡ refused_at (number f) w.at w →
      v ≡ entered level rows h d len step w
  unfolding entered
  enter_stops f v b e = eq_no _ (λ z. number_some f (sym b ∙ z)) (e ∙ ap (λ (x : ℕ). refused_at x w.at w) (sym b))

  pub enter_goes : (count datas redundants : ℕ) → bound_passed level rows h d w.lay ≡ 0 → count ≡ d → datas ≡ d → redundants ≡ h →
      record {
        lay = record {
          groups = w.lay.groups + 1;
          list = set w.lay.list w.lay.groups
              (record { h = h; d = d; len = len; row = rows; first = w.lay.k; redundant = w.lay.r; size = 1; count = count });
          k = w.lay.k + datas;
          r = w.lay.r + redundants;
        };
        at = w.at + step;
        fault = 0;
      } ≡ entered level rows h d len step w
  unfolding entered
  enter_goes count datas redundants b p q r = eq_yes _ b (rw (p, q, r) refl)

-- the branch `own` has ended, as the code does it: `count` is what it found of its data blocks
pub close_is : (own : ℕ) (w : State) (count : ℕ) → count ≡ w.lay.k - (group_at w.lay own).first →
    record {
      lay = record {
        groups = w.lay.groups;
        list = set w.lay.list own
            (record {
              h = (group_at w.lay own).h;
              d = (group_at w.lay own).d;
              len = (group_at w.lay own).len;
              row = (group_at w.lay own).row;
              first = (group_at w.lay own).first;
              redundant = (group_at w.lay own).redundant;
              size = w.lay.groups - own;
              count = count;
            });
        k = w.lay.k;
        r = w.lay.r;
      };
      at = w.at;
      fault = 0;
    } ≡ closed own w
close_is own w count e = rw e refl
