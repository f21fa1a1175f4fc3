use Rattle.std.proofs.Common.{◌≡◌, ℕ, ◌<◌, ◌≤◌, List, ◌++◌, length, take, drop, get_or, sym, ap, subst, ◌∙◌, arith}
use Rattle.std.proofs.lemmas.Grind.{common_steps}
use Rattle.bt_tcp.specs.Bits.{places, flag}
use Rattle.bt_tcp.specs.Cells.{ring, slot_of, IsRing}
use Rattle.bt_tcp.proofs.RingProofs.{ring-copied, same-over, slot-below}
use Rattle.bt_tcp.proofs.Taken.{taken_on}
use Rattle.bt_tcp.proofs.rings.Ring.lengthen.Goals as goal

written : {X : Type 0} (n : ℕ) (xs ys : List X) → length xs ≡ n → length ys ≡ n → take n (xs ++ drop (length xs) ys) ≡ xs
written n xs ys p q = grind (arith, common_steps)

bytes_are : (c : goal.After-self-1) → take c.resize.new.self.len (c.turn.new.bytes ++ drop (length c.turn.new.bytes) c.resize.new.self.items) ≡ c.turn.new.bytes
bytes_are c =
    let l : length c.resize.new.self.items ≡ c.resize.new.self.len = ap length (sym c.deref_mut.ensures.value) ∙ c.deref_mut.ensures.len in
    let m : length c.turn.new.bytes ≡ c.resize.new.self.len = c.turn.auto.bytes ∙ c.deref_mut.ensures.len in
    written c.resize.new.self.len c.turn.new.bytes c.resize.new.self.items m l

alike : (c : goal.After-self-1) (k : ℕ)
    → ring c.lengthen_flags.new.known.items c.turn.new.bytes 0 k ≡ ring c.args.known.now.items c.args.bytes.now.items c.args.self.now.head k
alike c k =
    let known = c.args.known.now.items in
    let bytes = c.args.bytes.now.items in
    let head = c.args.self.now.head in
    let flags = c.in_ok-lengthen_flags.ensures in
    let n : c.len-len.result ≡ places known = omega (arith, c.len-len.ensures, c.requires.fits.same) in
    let longer : places known ≤ places c.lengthen_flags.new.known.items = omega (arith, flags.len) in
    let at : (j : ℕ) → slot_of c.len-len.result head j ≡ slot_of (places known) head j = λ j. ap (λ x. slot_of x head j) n in
    ring-copied known c.lengthen_flags.new.known.items bytes c.turn.new.bytes head k c.requires.fits.inside longer
    (λ j h. flags.turned j (omega arith) ∙ ap (flag known) (at j))
    (λ j h. (
    let i = slot_of c.len-len.result head j in
    let b : i < c.len-len.result = slot-below c.len-len.result head j (omega (arith, c.requires.fits.inside)) (omega arith) in
    c.turn.ensures.turned j (omega arith) ∙ ap (λ x. get_or x i 0) c.deref_mut.ensures.value
    ∙ c.in_ok-resize.ensures.by_index.0 i 0 (omega (arith, b)) (omega (arith, b, c.in_ok-reserve_exact.ensures.len))
    ∙ ap (λ x. get_or x i 0) c.in_ok-reserve_exact.ensures.items ∙ ap (λ x. get_or bytes x 0) (at j)))
    (λ j h. flags.rest j (omega arith))

pub returns-clause-ahead : goal.returns-clause-ahead
returns-clause-ahead c k = ap (λ x. ring c.lengthen_flags.new.known.items x 0 k) (bytes_are c) ∙ alike c k

pub returns-clause-taken : goal.returns-clause-taken
returns-clause-taken c segs base out t = taken_on segs base out _ _ _ (returns-clause-ahead c) t

pub returns-clause-sound : goal.returns-clause-sound
returns-clause-sound c = record {
  fits = (
      let n : length c.turn.new.bytes ≡ c.resize.new.self.len = c.turn.auto.bytes ∙ c.deref_mut.ensures.len in
      let flags = c.in_ok-lengthen_flags.ensures in
      let r : IsRing c.lengthen_flags.new.known.items c.turn.new.bytes 0 = record {
        inside = omega (arith, flags.len, c.requires.fits.inside);
        same = omega (arith, flags.len, n, c.in_ok-resize.ensures.len, c.requires.fits.same);
      } in
      subst (λ x. IsRing c.lengthen_flags.new.known.items x 0) (sym (bytes_are c)) r);
  over = same-over c.args.self.now.next c.args.known.now.items _ c.args.bytes.now.items _ c.args.self.now.head 0 c.args.self.now.end (returns-clause-ahead c)
      c.requires.over;
}
