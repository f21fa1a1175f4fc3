-- Where the pass halts, the scanner can go on.
use Rattle.std.proofs.Common.{◌≡◌, ◌≢◌, ◌⊎◌, inl, inr, ℕ, ◌+◌, ◌-◌, ◌<◌, ◌≤◌, List, [], ◌∷◌, ◌++◌, length, get_or, slice_get, take, drop, Some, refl, ap, sym}
use Rattle.std.proofs.Common.{◌∙◌, subst, arith, append_assoc, length-append}
use Rattle.std.proofs.Math.Seq.{take-append_seam}
use Rattle.bt_bencode.specs.Trees.{Tree, Pairs, no_trees, tree}
use Rattle.bt_bencode.specs.Bencoding.{ben, ben_all, ben_string, longest_string}
use Rattle.bt_bencode.specs.Scanner.{Goes, HasRead, IsLive, ItemsThen, May, Rest, ValueThen, room_in}
use Rattle.bt_bencode.specs.Room.{FitsIn}
use Rattle.bt_bencode.specs.OnePass.{PassesValue, Halts, HaltsValue}
use Rattle.bt_bencode.specs.Unique.{same_tree, no_end}
use Rattle.bt_bencode.specs.declared.scan.Container.{Container}
use Rattle.bt_bencode.specs.declared.scan.Container.TheVariants as container
use Rattle.bt_bencode.specs.declared.scan.Expect.{Expect}
use Rattle.bt_bencode.specs.declared.scan.Expect.TheVariants as expect
use Rattle.bt_bencode.proofs.Heads.{headed}
use Rattle.bt_bencode.proofs.Moves.{goes_nested, goes_in_list}
use Rattle.bt_bencode.proofs.Nesting.{in_range}
use Rattle.bt_bencode.proofs.Reading.{starts_at}
use Rattle.bt_bencode.proofs.Tokens.{goes_whole_key}

abbrev Stack : Type 0
Stack = List Container

-- one part after the other
goes_then : {e e₁ e₂ : Expect} {s s₁ s₂ : Stack} (a b : List ℕ) → Goes e s a e₁ s₁ → Goes e₁ s₁ b e₂ s₂ → Goes e s (a ++ b) e₂ s₂
goes_then {e} {s = s} a b first second = record {
  live = second.live;
  forth = λ r h. second.forth r (first.forth (b ++ r) (subst (May e s) (append_assoc a b r) h));
  back = λ r h. subst (May e s) (sym (append_assoc a b r)) (first.back (b ++ r) (second.back r h));
}

-- a whole value, of a key and in a list
goes_value : (s : Stack) (t : Tree) → FitsIn (room_in s) t → Goes expect.Value s (ben t) expect.Item s
goes_value s t fit = record { live = tt; forth = λ r h. go r h; back = λ r h. (t, r, fit, refl, h) }
  where
    go : (r : List ℕ) → ValueThen (room_in s) (Rest s) (ben t ++ r) → Rest s r
    go r (u, rest, fits, is, then) =
        subst (Rest s) (sym (same_tree t u r rest (in_range (room_in s) t fit) (in_range (room_in s) u fits) is).1) then

goes_listed : (s : Stack) (t : Tree) → FitsIn (room_in (container.List ∷ s)) t → Goes expect.Item (container.List ∷ s) (ben t) expect.Item (container.List ∷ s)
goes_listed s t fit = record { live = tt; forth = λ r h. go r h; back = λ r h. on r h }
  where
    room : ℕ
    room = room_in (container.List ∷ s)

    go : (r : List ℕ) → ItemsThen room (Rest s) (ben t ++ r) → ItemsThen room (Rest s) r
    go r (no_trees, rest, fits, is, then) = absurd (no_end t r rest (in_range room t fit) is)
    go r (tree u us, rest, fits, is, then) =
        let same = same_tree t u r (ben_all us ++ 101 ∷ rest) (in_range room t fit) (in_range room u fits.0)
        (is ∙ append_assoc (ben u) (ben_all us) (101 ∷ rest)) in
        (us, rest, fits.1, same.1, then)

    on : (r : List ℕ) → ItemsThen room (Rest s) r → ItemsThen room (Rest s) (ben t ++ r)
    on r (us, rest, fits, is, then) =
        (tree t us, rest, (fit, fits), ap (λ x. ben t ++ x) is ∙ sym (append_assoc (ben t) (ben_all us) (101 ∷ rest)), then)

-- nothing was passed
pub halts_here : (s : Stack) (bytes : List ℕ) (left : ℕ) → left ≡ length bytes → Halts s bytes left s
halts_here s bytes left is = ([], bytes, refl, sym is, record { live = tt; forth = λ r h. h; back = λ r h. h })

-- it halts after an item of a list, or in one
pub halts_after_item : (s : Stack) (bytes next : List ℕ) → slice_get s 0 ≡ Some container.List → PassesValue (room_in s) bytes next
    → (left : ℕ) (o : Stack) → Halts s next left o → Halts s bytes left o
halts_after_item [] bytes next top p left o h = cc
halts_after_item (container.Dict ∷ s) bytes next top p left o h = cc
halts_after_item (container.List ∷ s) bytes next top (t, fit, sorted, is) left o (done, rest, split, long, goes) = (
  ben t ++ done,
  rest,
  is ∙ ap (λ x. ben t ++ x) split ∙ sym (append_assoc (ben t) done rest),
  long,
  goes_then (ben t) done (goes_listed s t fit) goes,
)

pub halts_in_item : (s : Stack) (bytes : List ℕ) (before left : ℕ) (o : Stack) → slice_get s 0 ≡ Some container.List → before ≡ length bytes
    → HaltsValue s before bytes left o → Halts s bytes left o
halts_in_item s bytes before left o top is (inl h) = subst (λ (x : Stack). Halts s bytes left x) (sym h.1) (halts_here s bytes left (h.0 ∙ is))
halts_in_item s bytes before left o top is (inr (first, done, rest, other, split, long, goes)) =
    (first ∷ done, rest, split, long, goes_in_list s first done expect.Item o top other goes)

-- after a pair of a dictionary, or in one
pub halts_after_pair : (s : Stack) (bytes key value next : List ℕ) → slice_get s 0 ≡ Some container.Dict → length key ≤ longest_string
    → bytes ≡ ben_string key ++ value → PassesValue (room_in s) value next → (left : ℕ) (o : Stack) → Halts s next left o → Halts s bytes left o
halts_after_pair [] bytes key value next top short front p left o h = cc
halts_after_pair (container.List ∷ s) bytes key value next top short front p left o h = cc
halts_after_pair (container.Dict ∷ s) bytes key value next top short front (t, fit, sorted, is) left o (done, rest, split, long, goes) = (
  ben_string key ++ (ben t ++ done),
  rest,
  front ∙ ap (λ x. ben_string key ++ x) (is ∙ ap (λ x. ben t ++ x) split ∙ sym (append_assoc (ben t) done rest))
      ∙ sym (append_assoc (ben_string key) (ben t ++ done) rest),
  long,
  goes_then (ben_string key) (ben t ++ done) (goes_whole_key s key short) (goes_then (ben t) done (goes_value (container.Dict ∷ s) t fit) goes),
)

pub halts_in_pair : (s : Stack) (bytes key value : List ℕ) (before left : ℕ) (o : Stack) → slice_get s 0 ≡ Some container.Dict
    → length key ≤ longest_string → bytes ≡ ben_string key ++ value → before ≡ length bytes → HaltsValue s before value left o → Halts s bytes left o
halts_in_pair s bytes key value before left o top short front is (inl h) = subst (λ (x : Stack). Halts s bytes left x) (sym h.1)
    (halts_here s bytes left (h.0 ∙ is))
halts_in_pair [] bytes key value before left o top short front is (inr h) = cc
halts_in_pair (container.List ∷ s) bytes key value before left o top short front is (inr h) = cc
halts_in_pair (container.Dict ∷ s) bytes key value before left o top short front is (inr (first, done, rest, other, split, long, goes)) = (
  ben_string key ++ (first ∷ done),
  rest,
  front ∙ ap (λ x. ben_string key ++ x) split ∙ sym (append_assoc (ben_string key) (first ∷ done) rest),
  long,
  goes_then (ben_string key) (first ∷ done) (goes_whole_key s key short) goes,
)

-- inside a value that is a list or a dictionary
pub halts_inside : (s : Stack) (kind : Container) (c before left : ℕ) (bytes tail : List ℕ) (o : Stack) → length s < 32 → get_or bytes 0 0 ≡ c → 101 < c ⊎ c < 101
    → 0 < c → tail ≡ drop 1 bytes → Goes expect.Value s (c ∷ []) expect.Item (kind ∷ s) → Halts (kind ∷ s) tail left o → HaltsValue s before bytes left o
halts_inside s kind c before left bytes tail o few is other some t first (done, rest, split, long, goes) =
    inr (c, done, rest, differs other, headed bytes c is some ∙ ap (λ x. c ∷ x) (sym t ∙ split), long, goes_then (c ∷ []) done first goes)
  where
    differs : 101 < c ⊎ c < 101 → c ≢ 101
    differs (inl h) e = omega (arith, h, e)
    differs (inr h) e = omega (arith, h, e)

pub halts_inside_list : (s : Stack) (before left : ℕ) (bytes tail : List ℕ) (o : Stack) → length s < 32 → get_or bytes 0 0 ≡ 108 → tail ≡ drop 1 bytes
    → Halts (container.List ∷ s) tail left o → HaltsValue s before bytes left o
halts_inside_list s before left bytes tail o few is t h = halts_inside s container.List 108 before left bytes tail o few is (inl (omega arith)) (omega arith) t
    (goes_nested s container.List few) h

pub halts_inside_dictionary : (s : Stack) (before left : ℕ) (bytes tail : List ℕ) (o : Stack) → length s < 32 → get_or bytes 0 0 ≡ 100 → tail ≡ drop 1 bytes
    → Halts (container.Dict ∷ s) tail left o → HaltsValue s before bytes left o
halts_inside_dictionary s before left bytes tail o few is t h = halts_inside s container.Dict 100 before left bytes tail o few is (inr (omega arith)) (omega arith) t
    (goes_nested s container.Dict few) h

-- what the scanner goes on from
pub record GoesOn (payload : List ℕ) (left : ℕ) (o : Stack) : Type 0 where
  pub within : left ≤ length payload
  pub read : HasRead (take (length payload - left) payload) expect.Item o

pub halted : (payload tail : List ℕ) (left : ℕ) (o : Stack) → get_or payload 0 0 ≡ 100 → tail ≡ drop 1 payload → Halts (container.Dict ∷ []) tail left o
    → GoesOn payload left o
halted payload tail left o is t (done, rest, split, long, goes) =
    let whole : payload ≡ (100 ∷ done) ++ rest = headed payload 100 is (omega arith) ∙ ap (λ x. 100 ∷ x) (sym t ∙ split) in
    let all = ap length whole ∙ length-append (100 ∷ done) rest in
    let n : length payload - left ≡ length (100 ∷ done) = omega (arith, all, long) in
    let front : take (length payload - left) payload ≡ 100 ∷ done = rw n (ap (λ x. take (length (100 ∷ done)) x) whole ∙ take-append_seam (100 ∷ done) rest) in
    let begun = starts_at 100 refl in
    record {
      within = omega (arith, all, long);
      read = subst (λ (x : List ℕ). HasRead x expect.Item o) (sym front) (record {
        live = tt;
        forth = λ r w. goes.forth r (begun.forth (done ++ r) w);
        back = λ r w. begun.back (done ++ r) (goes.back r w);
      });
    }
