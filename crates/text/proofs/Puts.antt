-- Proved: texts put one after another are one text, put.
use Prim.Native.Nat.{ℕ, ◌+◌, ◌-◌, ◌≤◌}
use mathlib.Core.Path.{◌≡◌, refl, sym, ◌∙◌, ap}
use mathlib.Core.List.{List, [], ◌++◌, append_assoc}
use native.Mathlib.Omega.{arith}
use borrow.Rule.Slice.PartMut.{put_mid}
use lib.ListN.{length, take, drop, length-append}
use lib.Seq.{length-sets, sets-eq, drop-drop}
use Rattle.note.proofs.Advance.{sets_append}
use Rattle.text.specs.declared.Writer.{Writer}
use Rattle.text.specs.Put.{Put, Writes}

-- nothing is put
pub put_nothing : (at : ℕ) (a : List ℕ) → Put [] at a a at
put_nothing at a = record { end = omega arith; bytes = refl }

-- a buffer's length stays
pub put_length : {s a b : List ℕ} {at r : ℕ} → Put s at a b r → length b ≡ length a
put_length {s} {a} {b} {at} p = ap length p.bytes ∙ length-sets a at s

pub put_then : {s t a b c : List ℕ} {at m r : ℕ} → Put s at a b m → Put t m b c r → Put (s ++ t) at a c r
put_then {s} {t} {a} {b} {c} {at} p q =
    record {
      end = omega (arith, p.end, q.end, length-append s t);
      bytes = q.bytes ∙ rw (p.bytes, p.end) (sets_append a at s t);
    }

-- a word that is copied in
pub put_copied : (word copy : List ℕ) (at : ℕ) (a : List ℕ) → copy ≡ word → at + length word ≤ length a
    → Put word at a (put_mid at (at + length word - at) a copy) (at + length word)
put_copied word copy at a e h =
    let k : at + length word - at ≡ length word = omega arith in
    record { end = refl; bytes = rw (e, k, drop-drop (length word) at a) (sym (sets-eq word a at h ∙ append_assoc (take at a) word (drop (at + length word) a))) }

-- ---- by a writer

pub writes_length : {s : List ℕ} {a b : Writer} → Writes s a b → length b.out.now ≡ length a.out.now
writes_length w = put_length w.put

pub writes_then : {s t : List ℕ} {a b c : Writer} → Writes s a b → Writes t b c → Writes (s ++ t) a c
writes_then v w = record { put = put_then v.put w.put; same = w.same ∙ v.same }

-- where a text ends, in a buffer of the same length
pub placed : {s : List ℕ} {a b : Writer} → Writes s a b → (b.at ≡ a.at + length s) × (length b.out.now ≡ length a.out.now)
placed w = (w.put.end, writes_length w)
