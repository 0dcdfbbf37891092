-- Believed: document 01, "The layout note": how blocks and rows are numbered, and the bounds on the running totals, with refusal 5 of "When the
-- store says no". A layout is the groups entered so far. A walk holds one, with its place in the note, until a fault stops it; a state says how far it
-- came, and the number of the fault.
use Rattle.std.specs.Prelude.{ℕ, ◌+◌, ◌-◌, cond, get_or, set, replicate, ltb, eqb, Result, Ok, Err}
use Rattle.groups.specs.declared.Group.{Group}
use Rattle.groups.specs.declared.Layout.{Layout}
use Rattle.groups.specs.declared.Fault.{Fault}
use Rattle.groups.specs.declared.Fault.TheVariants.{End, Kind, Body, Extra, Bounds}
use Rattle.groups.specs.declared.Walk.{Walk}
use Rattle.groups.specs.declared.Stopped.{Stopped}
use Rattle.groups.specs.declared.State.{State}

-- ---- tests

-- x if a < b, else y
unfoldable pub if_lt : {A : Type 0} → ℕ → ℕ → A → A → A
if_lt a b x y = cond (ltb a b) x y

-- x if a is b, else y
unfoldable pub if_eq : {A : Type 0} → ℕ → ℕ → A → A → A
if_eq a b x y = cond (eqb a b) x y

-- ---- layouts

-- an unused entry of a layout: every part of it is 0
abbrev pub no_group : Group
no_group = record { h = 0; d = 0; len = 0; row = 0; first = 0; redundant = 0; size = 0; count = 0 }

-- the group x of a layout
abbrev pub group_at : Layout → ℕ → Group
group_at l x = get_or l.list x no_group

-- the layout of which nothing is read yet, and that which is told with the refusal of a note
abbrev pub blank : Layout
blank = record { groups = 0; list = replicate 16 no_group; k = 0; r = 0 }

-- "bounds on the running totals (5)": groups at most 16, nesting at most 4, rows on a path at most 16, k at most 32, n at most 48. The layout
-- so far is l, the group's nesting is `level`, and the groups round it have `rows` rows. 0 if no bound is passed
unfoldable pub bound_passed : ℕ → ℕ → ℕ → ℕ → Layout → ℕ
bound_passed level rows h d l =
    -- groups
    if_lt 16 (l.groups + 1) 5
    -- nesting
    (if_lt 4 level 5
    -- rows on a path from top to leaf
    (if_lt 16 (rows + h) 5
    -- k
    (if_lt 32 (l.k + d) 5
    -- n
    (if_lt 48 (l.k + d + l.r + h) 5
    0))))

-- the layout with one group more, in the order of the headers. "Data blocks are numbered from 0 in note order", so its first is the number of
-- those before; "Redundant blocks follow .. in the order in which their groups' headers stand in the note"; "A group's rows start at the sum of
-- the h of all groups round it."
abbrev pub with_group : ℕ → ℕ → ℕ → ℕ → Layout → Layout
with_group rows h d len l =
    record {
      groups = l.groups + 1;
      list = set l.list l.groups
          (record { h = h; d = d; len = len; row = rows; first = l.k; redundant = l.r; size = 1; count = d });
      k = l.k + d;
      r = l.r + h;
    }

-- ---- the reader's state

-- document 01's numbers of the refusals of a note
abbrev pub number : Fault → ℕ
number End = 1
number Kind = 2
number Body = 3
number Extra = 4
number Bounds = 5

-- the state of a walk that goes on, of one that is stopped, and of either
abbrev pub walking : Walk → State
walking w = record { lay = w.lay; at = w.at; fault = 0 }

abbrev pub stopped : Stopped → State
stopped e = record { lay = e.walk.lay; at = e.walk.at; fault = number e.fault }

abbrev pub walked : Result Walk Stopped → State
walked (Ok w) = walking w
walked (Err e) = stopped e

-- the reader before the first record
abbrev pub at_start : State
at_start = record { lay = blank; at = 0; fault = 0 }

-- a fault: its number, and the offset of the record at fault
abbrev pub refused_at : ℕ → ℕ → State → State
refused_at number offset w = record { lay = w.lay; at = offset; fault = number }

-- one group more: `step` bytes of its record are passed
abbrev pub grown : ℕ → ℕ → ℕ → ℕ → ℕ → State → State
grown rows h d len step w = record { lay = with_group rows h d len w.lay; at = w.at + step; fault = 0 }

-- the same, if the running totals allow it
unfoldable pub entered : ℕ → ℕ → ℕ → ℕ → ℕ → ℕ → State → State
entered level rows h d len step w =
    if_eq (bound_passed level rows h d w.lay) 0
    (grown rows h d len step w)
    (refused_at (bound_passed level rows h d w.lay) w.at w)

-- a branch that ends before the group `groups`, with k data blocks so far: how many groups and data blocks are inside it
abbrev pub ended : ℕ → ℕ → ℕ → Group → Group
ended own groups k g =
    record {
      h = g.h;
      d = g.d;
      len = g.len;
      row = g.row;
      first = g.first;
      redundant = g.redundant;
      size = groups - own;
      count = k - g.first;
    }

-- the branch that is the group `own` has ended
abbrev pub closed : ℕ → State → State
closed own w =
    record {
      lay = record {
        groups = w.lay.groups;
        list = set w.lay.list own (ended own w.lay.groups w.lay.k (group_at w.lay own));
        k = w.lay.k;
        r = w.lay.r;
      };
      at = w.at;
      fault = 0;
    }
