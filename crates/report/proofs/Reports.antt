-- Proved: which facts make which text, from the last question that is asked to the first, and what is then said of the buffer.
use Prim.Native.Nat.{ℕ, zero, suc, ◌+◌, ◌*◌, ◌-◌, ◌<◌, ◌≤◌}
use mathlib.Core.Path.{◌≡◌, refl, sym, ap, subst, ◌∙◌}
use mathlib.Core.Bool.{true, false}
use mathlib.Core.List.{List, [], ◌∷◌, ◌++◌}
use native.Mathlib.Omega.{arith}
use native.Mathlib.Nat.{zero-add}
use lib.ListN.{length, get_or, take, drop, length-append, length-drop}
use lib.Seq.{take_all, sets-eq}
use Rattle.note.specs.Note.{Bytes, length_at, read_note}
use Rattle.note.specs.Note.Outcome.{layout, refusal}
use Rattle.given.specs.Given.{Given}
use Rattle.given.proofs.Facts.{given_proper}
use Rattle.groups.specs.declared.Layout.{Layout}
use Rattle.linear.proofs.Sets.{in_and_out}
use Rattle.marks.specs.Marks.{marked, none_from}
use Rattle.marks.proofs.Bits.{none_from_lem}
use Rattle.rows.specs.Rows.{blocks}
use Rattle.plan.specs.declared.Standing.{Standing}
use Rattle.text.specs.Text.{refused_text, layout_text}
use Rattle.input.specs.Input.{note_size, standing_in, Whole}
use Rattle.input.specs.Inner.{Parted}
use Rattle.losses.specs.Lines.{Lines}
use Rattle.losses.specs.Inner.{Written}
use Rattle.report.specs.Report.{lines, Asks, met, unmet, Follows, Says, Report}
use Rattle.text.specs.Put.{Put}
use Rattle.text.proofs.Digits.{decimal_short}
use Rattle.text.proofs.Puts.{put_then}

-- ---- the room

pub refused_room : (number : ℕ) (out : List ℕ) → 12288 ≤ length out → 0 + length (refused_text number) ≤ length out
refused_room number out h = simp length-append (omega (arith, decimal_short number))

pub layout_short : (k n : ℕ) → length (layout_text k n) ≤ 15
layout_short k n = simp length-append (omega (arith, decimal_short k, decimal_short n))

pub given_small : (l : Layout) → Given l → (l.k ≤ 32) × (blocks l ≤ 48)
given_small l g = ((given_proper l g).k, (given_proper l g).n)

-- ---- what follows the note

module _ {P : Type 0} {number : ℕ} {Next : List ℕ → Type 0} {a b : List ℕ} {r : ℕ} where
  pub written_unmet : (P → ⊥) → Put (refused_text number) 0 a b r → Written (Asks P number Next) 12288 0 a b r
  written_unmet n p =
      record { text = refused_text number; holds = unmet n; short = simp length-append (omega (arith, decimal_short number)); put = p }

  pub written_met : P → Written Next 12288 0 a b r → Written (Asks P number Next) 12288 0 a b r
  written_met x w = record { text = w.text; holds = met x w.holds; short = w.short; put = w.put }

-- a mark at n or above
stray : (m n : ℕ) → none_from m n ≡ false → ((b : ℕ) → n ≤ b → marked m b ≡ false) → ⊥
stray m n e h = in_and_out ((none_from_lem m n).1 h) e

module _ (l : Layout) (rest : List ℕ) (st : Standing) (read : st ≡ standing_in rest) (w : Whole (blocks l) rest) where
  pub follow_stray : {a b : List ℕ} {r : ℕ} → none_from st.lost (blocks l) ≡ false → Put (refused_text 8) 0 a b r
      → Written (Follows l rest) 12288 0 a b r
  follow_stray e p = written_met w (written_unmet (stray (standing_in rest).lost (blocks l) (rw read at e)) p)

  pub follow_listed : {a b c : List ℕ} {m r : ℕ} → blocks l ≤ 48 → none_from st.lost (blocks l) ≡ true
      → Put (layout_text l.k (blocks l)) 0 a b m → Written (Lines l st (blocks l)) (232 * blocks l) m b c r → Written (Follows l rest) 12288 0 a c r
  follow_listed n e p o =
      written_met w
      (written_met ((none_from_lem (standing_in rest).lost (blocks l)).0 (rw read at e))
      (record {
        text = layout_text l.k (blocks l) ++ o.text;
        holds = lines (rw read at o.holds);
        short = omega (arith, length-append (layout_text l.k (blocks l)) o.text, layout_short l.k (blocks l), o.short);
        put = put_then p o.put;
      }))

-- ---- the note

-- a part of bytes is bytes
part_below : (n : ℕ) (s : List ℕ) → ((j : ℕ) → get_or s j 0 < 256) → (i : ℕ) → get_or (take n s) i 0 < 256
part_below zero s b i = omega arith
part_below (suc n) [] b i = omega arith
part_below (suc n) (x ∷ s) b zero = b 0
part_below (suc n) (x ∷ s) b (suc i) = part_below n s (λ j. b (suc j)) i

pub bytes_part : (n : ℕ) (s : List ℕ) → ((j : ℕ) → get_or s j 0 < 256) → Bytes (take n s)
bytes_part n s b = record { below = part_below n s b }

pub accepted : (s : List ℕ) (l : Layout) → Bytes s → layout l ≡ read_note s → Given l
accepted s l b e = record { note = s; bytes = b; gives = sym e }

-- ---- the input

module _ (s : List ℕ) (e : ℕ) (p : Parted s e) (h : 2 ≤ length s → length_at s 0 ≤ 254) where
  says_follow : (l : Layout) → read_note (take e s) ≡ layout l → {text : List ℕ} → Follows l (take (length s - e) (drop e s)) text → Says s text
  says_follow l g {text} f =
      let q : read_note (take (note_size s) s) ≡ layout l = ap read_note (sym p.note) ∙ g in
      let t : take (length s - e) (drop e s) ≡ drop (note_size s) s = take_all (length s - e) (drop e s) (omega (arith, length-drop e s)) ∙ p.rest in
      met {text = text} h (rw q (subst (λ (x : List ℕ). Follows l x text) t f))

  pub written_sound : {a b : List ℕ} {r : ℕ} (l : Layout) → layout l ≡ read_note (take e s)
      → Written (Follows l (take (length s - e) (drop e s))) 12288 0 a b r → Written (Says s) 12288 0 a b r
  written_sound l q w = record { text = w.text; holds = says_follow l (sym q) w.holds; short = w.short; put = w.put }

  pub written_refused : {a b : List ℕ} {r : ℕ} (number offset : ℕ) → refusal number offset ≡ read_note (take e s)
      → Put (refused_text number) 0 a b r → Written (Says s) 12288 0 a b r
  written_refused number offset q w =
      let g : read_note (take (note_size s) s) ≡ refusal number offset = ap read_note (sym p.note) ∙ sym q in
      record {
        text = refused_text number;
        holds = met {text = refused_text number} h (rw g refl);
        short = simp length-append (omega (arith, decimal_short number));
        put = w;
      }

-- ---- the call

pub report_small : (input old : List ℕ) → length old < 12288 → Report input old old 0
report_small input old h = record { small = λ _. (refl, refl); printed = λ k. absurd (omega arith) }

pub report_text : (input old new : List ℕ) (r : ℕ) → 12288 ≤ length old → Written (Says input) 12288 0 old new r → Report input old new r
report_text input old new r h w =
    record {
      small = λ k. absurd (omega arith);
      printed = λ k. record {
        text = w.text;
        says = w.holds;
        size = w.put.end ∙ zero-add (length w.text);
        fits = omega (arith, w.put.end, w.short);
        bytes = w.put.bytes ∙ sets-eq w.text old 0 (omega (arith, w.short)) ∙ ap (λ (n : ℕ). w.text ++ drop n old) (zero-add (length w.text));
      };
    }
