-- Whole byte strings and integers, read at once.
use Rattle.std.proofs.Common.{◌≡◌, ◌≢◌, inl, inr, ℕ, suc, ◌+◌, ◌-◌, ◌*◌, ◌^◌, ◌<◌, ◌≤◌, List, [], ◌∷◌, ◌++◌, length, get_or, slice_get, Some, take, drop}
use Rattle.std.proofs.Common.{subst, sym, ap, ◌∙◌, refl, add-one, append_assoc, drop-cons, Option, None, IfSome, MatchOption, arith, length-append}
use Rattle.std.proofs.Common.{length-drop}
use Rattle.std.proofs.Math.Nat.{pow-suc}
use Rattle.std.proofs.Math.Pow.{pow_mono}
use Rattle.std.proofs.Math.Seq.{take-append_seam, take-add, drop-drop}
use Rattle.std.specs.Fmt.{decimal}
use Rattle.bt_bencode.specs.Bencoding.{ben, ben_string, ben_pairs, longest_string}
use Rattle.bt_bencode.specs.Scanner.{IsDigit, NumberThen, Rest, ValueThen, PairsThen, May, IsLive, Goes, HasRead, Leads, room_in, magnitude_limit, opening}
use Rattle.bt_bencode.specs.Trees.{string, no_pairs, pair}
use Rattle.bt_bencode.specs.Unique.{same_tree, same_string, no_string, regroup}
use Rattle.bt_bencode.specs.declared.scan.Container.{Container}
use Rattle.bt_bencode.specs.declared.scan.Container.TheVariants as container
use Rattle.bt_bencode.specs.declared.scan.Sign.{Sign}
use Rattle.bt_bencode.specs.declared.scan.Sign.TheVariants as sign
use Rattle.bt_bencode.specs.declared.scan.Expect.{Expect}
use Rattle.bt_bencode.specs.declared.scan.Expect.TheVariants as expect
use Rattle.bt_bencode.proofs.Moves.{goes_integer, goes_nested, goes_end, goes_in_list}
use Rattle.bt_bencode.proofs.Nesting.{in_range}
use Rattle.bt_bencode.proofs.Reading.{goes_over}

abbrev Stack : Type 0
Stack = List Container

-- another digit of a number, where it isn't the byte that ends it
module _ (limit stop : ℕ) (Then : ℕ → List ℕ → Type 0) (n b : ℕ) (other : b ≢ stop) where
  pub further : (r : List ℕ) → NumberThen limit stop Then n (b ∷ r) → NumberThen limit stop Then (n * 10 + (b - 48)) r
  further r (inl e) = absurd (other e.0)
  further r (inr h) = h.3

-- the end of a number
module _ (limit stop : ℕ) (Then : ℕ → List ℕ → Type 0) (n : ℕ) (high : 57 < stop) where
  pub at_stop : (r : List ℕ) → NumberThen limit stop Then n (stop ∷ r) → Then n r
  at_stop r (inl e) = e.1
  at_stop r (inr h) = absurd (omega (arith, h.0))

pub goes_digits : (stack : Stack) (side : Sign) (n b : ℕ) → IsDigit b → 0 < n → n * 10 + (b - 48) ≤ magnitude_limit side
    → Goes (expect.Digits side n) stack (b ∷ []) (expect.Digits side (n * 10 + (b - 48))) stack
goes_digits stack side n b d some low = record {
  live = low;
  forth = λ r h. further (magnitude_limit side) 101 (λ _. Rest stack) n b (λ e. omega arith) r h;
  back = λ r h. inr (d, some, low, h);
}

pub goes_integer_end : (stack : Stack) (side : Sign) (n : ℕ) → Goes (expect.Digits side n) stack (101 ∷ []) expect.Item stack
goes_integer_end stack side n = record {
  live = tt;
  forth = λ r h. at_stop (magnitude_limit side) 101 (λ _. Rest stack) n (omega arith) r h;
  back = λ r h. inl (refl, h);
}

pub goes_minus : (stack : Stack) → Goes expect.Integer stack (45 ∷ []) expect.Negative stack
goes_minus stack = record { live = tt; forth = λ r h. go r h; back = λ r h. inl (refl, h) }
  where
    go : (r : List ℕ) → May expect.Integer stack (45 ∷ r) → May expect.Negative stack r
    go r (inl e) = e.1
    go r (inr d) = absurd (omega (arith, d.0))

pub goes_first : (stack : Stack) (b : ℕ) → IsDigit b → Goes expect.Integer stack (b ∷ []) (expect.Digits sign.Plus (b - 48)) stack
goes_first stack b d = record { live = omega arith; forth = λ r h. go r h; back = λ r h. inr (d, h) }
  where
    go : (r : List ℕ) → May expect.Integer stack (b ∷ r) → May (expect.Digits sign.Plus (b - 48)) stack r
    go r (inl e) = absurd (omega (arith, e.0))
    go r (inr h) = h.1

pub goes_first_negative : (stack : Stack) (b : ℕ) → IsDigit b → b ≢ 48 → Goes expect.Negative stack (b ∷ []) (expect.Digits sign.Minus (b - 48)) stack
goes_first_negative stack b d other = record { live = omega arith; forth = λ r h. h.1.1; back = λ r h. (omega arith, (d, h)) }

-- the bytes from `at` on
first_byte : (payload : List ℕ) (at end : ℕ) → at < length payload → at < end → take (end - at) (drop at payload)
    ≡ get_or payload at 0 ∷ take (end - (at + 1)) (drop (at + 1) payload)
first_byte payload at end h low = let same : end - at ≡ suc (end - (at + 1)) = omega arith in rw (same, drop-cons payload at 0, ← add-one at) refl

pub leads_byte : (payload : List ℕ) (at : ℕ) (e e' : Expect) (s s' : Stack) → at < length payload → Goes e s (get_or payload at 0 ∷ []) e' s'
    → Leads payload at e s (at + 1) e' s'
leads_byte payload at e e' s s' h goes =
    let none : at + 1 - (at + 1) ≡ 0 = omega arith in
    rw (first_byte payload at (at + 1) h (omega arith), none) goes

-- one after the other
pub leads_on : {e e₁ e₂ : Expect} {s s₁ s₂ : Stack} (payload : List ℕ) (at m end : ℕ) → at ≤ m → m ≤ end → Leads payload at e s m e₁ s₁
    → Leads payload m e₁ s₁ end e₂ s₂ → Leads payload at e s end e₂ s₂
leads_on {e} {s = s} payload at m end low high first second = record {
  live = second.live;
  forth = λ r h. second.forth r (first.forth (take (end - m) (drop m payload) ++ r) (subst (May e s) (apart r) h));
  back = λ r h. subst (May e s) (sym (apart r)) (first.back (take (end - m) (drop m payload) ++ r) (second.back r h));
}
  where
    split : take (end - at) (drop at payload) ≡ take (m - at) (drop at payload) ++ take (end - m) (drop m payload)
    split =
        let whole : end - at ≡ (m - at) + (end - m) = omega arith in
        let there : at + (m - at) ≡ m = omega arith in
        rw (whole, take-add (m - at) (end - m) (drop at payload), drop-drop, there) refl

    apart : (r : List ℕ) → take (end - at) (drop at payload) ++ r ≡ take (m - at) (drop at payload) ++ (take (end - m) (drop m payload) ++ r)
    apart r = rw (split, append_assoc) refl

pub read_on : (payload : List ℕ) (at end : ℕ) (e e' : Expect) (s s' : Stack) → at ≤ end → HasRead (take at payload) e s → Leads payload at e s end e' s'
    → HasRead (take end payload) e' s'
read_on payload at end e e' s s' low read leads =
    let same : at + (end - at) ≡ end = omega arith in
    subst (λ (k : ℕ). HasRead (take k payload) e' s') same (goes_over payload at (end - at) e e' s s' read leads)

-- no byte
nothing : (payload : List ℕ) (at : ℕ) (e : Expect) (s : Stack) → IsLive e → Leads payload at e s at e s
nothing payload at e s live = let none : at - at ≡ 0 = omega arith in rw none (record { live = live; forth = λ r h. h; back = λ r h. h })

-- An integer's first digit stands at `at`; its digits before `i` have the value n.
pub record DigitsRead (payload : List ℕ) (at i n : ℕ) : Type 0 where
  pub following : at < i
  pub within : i ≤ length payload
  pub first : IsDigit (get_or payload at 0)
  pub leads : (side : Sign) (s : Stack) → Goes (expect.Digits side (get_or payload at 0 - 48)) s (take (i - (at + 1)) (drop (at + 1) payload))
      (expect.Digits side n) s

keeps_limit : (side : Sign) (n : ℕ) → n < 2 ^ 63 → n ≤ magnitude_limit side
keeps_limit sign.Plus n low = omega arith
keeps_limit sign.Minus n low = omega arith

pub digits_start : (payload : List ℕ) (at : ℕ) → at < length payload → IsDigit (get_or payload at 0) → DigitsRead payload at (at + 1) (get_or payload at 0 - 48)
digits_start payload at h d = record {
  following = omega arith;
  within = omega arith;
  first = d;
  leads = λ side s. nothing payload (at + 1) (expect.Digits side (get_or payload at 0 - 48)) s (keeps_limit side (get_or payload at 0 - 48) (omega arith));
}

pub digits_go_on : (payload : List ℕ) (at i n : ℕ) → DigitsRead payload at i n → i < length payload → IsDigit (get_or payload i 0) → 0 < n
    → n * 10 + 9 < 2 ^ 63 → DigitsRead payload at (i + 1) (n * 10 + (get_or payload i 0 - 48))
digits_go_on payload at i n so h d some low = record {
  following = omega (arith, so.following);
  within = omega arith;
  first = so.first;
  leads = λ side s. leads_on payload (at + 1) i (i + 1) (omega (arith, so.following)) (omega arith) (so.leads side s)
      (leads_byte payload i (expect.Digits side n) (expect.Digits side (n * 10 + (get_or payload i 0 - 48))) s s h
      (goes_digits s side n (get_or payload i 0) d some (keeps_limit side (n * 10 + (get_or payload i 0 - 48)) (omega arith))));
}

sixteen : (m : ℕ) → 2 ^ suc (suc (suc (suc m))) ≡ 2 ^ m * 16
sixteen m = rw (pow-suc 2 (suc (suc (suc m))), pow-suc 2 (suc (suc m)), pow-suc 2 (suc m), pow-suc 2 m) (omega arith)

-- a number of k digits, and one more
pub digit_more : (n k d : ℕ) → n < 2 ^ (4 * k) → d ≤ 9 → n * 10 + d < 2 ^ (4 * (k + 1))
digit_more n k d h low =
    let same : 4 * (k + 1) ≡ suc (suc (suc (suc (4 * k)))) = omega arith in
    rw (same, sixteen (4 * k)) (omega (arith, h, low))

pub few_digits : (n k : ℕ) → n < 2 ^ (4 * k) → k ≤ 14 → n * 10 + 9 < 2 ^ 63
few_digits n k h low =
    let most : 4 * k ≤ 56 = omega (arith, low) in
    omega (arith, h, pow_mono most)

module _ (payload : List ℕ) (at i n : ℕ) (so : DigitsRead payload at i n) (h : i < length payload) (stop : get_or payload i 0 ≡ 101) where
  -- an integer whose first digit has been read
  digits_after : (side : Sign) (s : Stack) → Leads payload (at + 1) (expect.Digits side (get_or payload at 0 - 48)) s (i + 1) expect.Item s
  digits_after side s = leads_on payload (at + 1) i (i + 1) (omega (arith, so.following)) (omega arith) (so.leads side s)
      (leads_byte payload i (expect.Digits side n) expect.Item s s h (rw stop (goes_integer_end s side n)))

  pub digits_plus : (s : Stack) → Leads payload at expect.Integer s (i + 1) expect.Item s
  digits_plus s = leads_on payload at (at + 1) (i + 1) (omega arith) (omega (arith, so.following))
      (leads_byte payload at expect.Integer (expect.Digits sign.Plus (get_or payload at 0 - 48)) s s (omega (arith, so.following))
      (goes_first s (get_or payload at 0) so.first)) (digits_after sign.Plus s)

  pub digits_minus : (s : Stack) → get_or payload at 0 ≢ 48 → Leads payload at expect.Negative s (i + 1) expect.Item s
  digits_minus s other = leads_on payload at (at + 1) (i + 1) (omega arith) (omega (arith, so.following))
      (leads_byte payload at expect.Negative (expect.Digits sign.Minus (get_or payload at 0 - 48)) s s (omega (arith, so.following))
      (goes_first_negative s (get_or payload at 0) so.first other)) (digits_after sign.Minus s)

module _ (payload : List ℕ) (at end : ℕ) (s : Stack) (h : at < length payload) (before : at < end) where
  -- a `-`, and what follows
  pub after_minus : get_or payload at 0 ≡ 45 → Leads payload (at + 1) expect.Negative s end expect.Item s → Leads payload at expect.Integer s end expect.Item s
  after_minus is rest = leads_on payload at (at + 1) end (omega arith) (omega arith)
      (leads_byte payload at expect.Integer expect.Negative s s h (rw is (goes_minus s))) rest

  -- an `i`, and what follows
  pub after_i : get_or payload at 0 ≡ 105 → Leads payload (at + 1) expect.Integer s end expect.Item s → Leads payload at expect.Value s end expect.Item s
  after_i is rest = leads_on payload at (at + 1) end (omega arith) (omega arith)
      (leads_byte payload at expect.Value expect.Integer s s h (goes_integer s (get_or payload at 0) is)) rest

  -- where the innermost is a list, an item is a value
  pub value_in_list : (s' : Stack) → slice_get s 0 ≡ Some container.List → get_or payload at 0 ≢ 101 → Leads payload at expect.Value s end expect.Item s'
      → Leads payload at expect.Item s end expect.Item s'
  value_in_list s' top other leads = rw (first_byte payload at end h before)
      (goes_in_list s (get_or payload at 0) (take (end - (at + 1)) (drop (at + 1) payload)) expect.Item s' top other
      (rw (first_byte payload at end h before) at leads))

-- a whole byte string, as a value and as a key
goes_text : (s : Stack) (k : List ℕ) → length k ≤ longest_string → Goes expect.Value s (ben_string k) expect.Item s
goes_text s k short = record { live = tt; forth = λ r h. go r h; back = λ r h. (string k, r, short, refl, h) }
  where
    go : (r : List ℕ) → ValueThen (room_in s) (Rest s) (ben_string k ++ r) → Rest s r
    go r (u, rest, fit, is, then) = subst (Rest s) (sym (same_tree (string k) u r rest short (in_range (room_in s) u fit) is).1) then

pub goes_whole_key : (s : Stack) (k : List ℕ) → length k ≤ longest_string
    → Goes expect.Item (container.Dict ∷ s) (ben_string k) expect.Value (container.Dict ∷ s)
goes_whole_key s k short = record { live = tt; forth = λ r h. go r h; back = λ r h. on r h }
  where
    room : ℕ
    room = room_in (container.Dict ∷ s)

    go : (r : List ℕ) → PairsThen room (Rest s) (ben_string k ++ r) → ValueThen room (Rest (container.Dict ∷ s)) r
    go r (no_pairs, rest, fit, is, then) = absurd (omega (arith, no_string k r rest 101 short is))
    go r (pair l u qs, rest, fit, is, then) =
        let same = same_string k l r (ben u ++ (ben_pairs qs ++ 101 ∷ rest)) short fit.0
        (is ∙ regroup (ben_string l) (ben u) (ben_pairs qs) (101 ∷ rest)) in
        (u, ben_pairs qs ++ 101 ∷ rest, fit.1, same.1, (qs, rest, fit.2, refl, then))

    on : (r : List ℕ) → ValueThen room (Rest (container.Dict ∷ s)) r → PairsThen room (Rest s) (ben_string k ++ r)
    on r (u, more, fit, is, (qs, rest, fits, so, then)) =
        let whole : r ≡ ben u ++ (ben_pairs qs ++ 101 ∷ rest) = is ∙ ap (λ x. ben u ++ x) so in
        (pair k u qs, rest, (short, fit, fits), ap (λ x. ben_string k ++ x) whole ∙ sym (regroup (ben_string k) (ben u) (ben_pairs qs) (101 ∷ rest)), then)

-- what lies between `at` and `rest`
between : (payload front rest : List ℕ) (at : ℕ) → at ≤ length payload → drop at payload ≡ front ++ rest
    → take (length payload - length rest - at) (drop at payload) ≡ front
between payload front rest at low is =
    let n : length payload - length rest - at ≡ length front = omega (arith, ap length is, length-drop at payload, length-append front rest) in
    rw n (ap (λ x. take (length front) x) is ∙ take-append_seam front rest)

pub string_within : (payload k rest : List ℕ) (at : ℕ) → at ≤ length payload → drop at payload ≡ ben_string k ++ rest
    → (at < length payload - length rest) × (length payload - length rest ≤ length payload)
string_within payload k rest at low is =
    let long = ap length is ∙ length-append (ben_string k) rest in
    let some = length-append (decimal (length k)) (58 ∷ k) in
    (omega (arith, long, some, length-drop at payload), omega arith)

pub string_value : (payload k rest : List ℕ) (at : ℕ) → at ≤ length payload → length k ≤ longest_string → drop at payload ≡ ben_string k ++ rest → (s : Stack)
    → Leads payload at expect.Value s (length payload - length rest) expect.Item s
string_value payload k rest at low short is s = rw (between payload (ben_string k) rest at low is) (goes_text s k short)

pub string_key : (payload k rest : List ℕ) (at : ℕ) → at ≤ length payload → length k ≤ longest_string → drop at payload ≡ ben_string k ++ rest → (s : Stack)
    → Leads payload at expect.Item (container.Dict ∷ s) (length payload - length rest) expect.Value (container.Dict ∷ s)
string_key payload k rest at low short is s = rw (between payload (ben_string k) rest at low is) (goes_whole_key s k short)

-- a key
pub key_leads : (payload : List ℕ) (at end : ℕ) (s : Stack) → slice_get s 0 ≡ Some container.Dict
    → ((s : Stack) → Leads payload at expect.Item (container.Dict ∷ s) end expect.Value (container.Dict ∷ s))
    → Leads payload at expect.Item s end expect.Value s
key_leads payload at end [] top leads = cc
key_leads payload at end (container.List ∷ s) top leads = cc
key_leads payload at end (container.Dict ∷ s) top leads = leads s

-- an `l` or a `d`
pub nested_leads : (payload : List ℕ) (at : ℕ) (s : Stack) (kind : Container) → at < length payload → get_or payload at 0 ≡ opening kind → length s < 32
    → Leads payload at expect.Value s (at + 1) expect.Item (kind ∷ s)
nested_leads payload at s kind h is few = leads_byte payload at expect.Value expect.Item s (kind ∷ s) h (rw is (goes_nested s kind few))

-- an `e`
pub end_leads : (payload : List ℕ) (at : ℕ) (s : Stack) (kind : Container) → at < length payload → slice_get s 0 ≡ Some kind → get_or payload at 0 ≡ 101
    → Leads payload at expect.Item s (at + 1) expect.Item (drop 1 s)
end_leads payload at s kind h top is = leads_byte payload at expect.Item expect.Item s (drop 1 s) h (goes_end s kind (get_or payload at 0) top is)

-- what a quick reading promises, from what it found
pub or_kept : {A : Type 0} (o : Option A) (R : Type 0) (W P Q : A → Type 0) → R → IfSome o W → IfSome o P → ((x : A) → W x → P x → Q x) → MatchOption o R Q
or_kept None R W P Q r w h f = r
or_kept (Some x) R W P Q r w h f = f x w h

pub found_within : {A : Type 0} (o : Option A) (R : Type 0) (W P Q : A → Type 0) → IfSome o W → MatchOption o R P → ((x : A) → W x → P x → Q x)
    → MatchOption o R Q
found_within None R W P Q w h f = h
found_within (Some x) R W P Q w h f = f x w h

pub both_found : {A : Type 0} (o : Option A) (W P Q : A → Type 0) → IfSome o W → IfSome o P → ((x : A) → W x → P x → Q x) → IfSome o Q
both_found None W P Q w h f = h
both_found (Some x) W P Q w h f = f x w h
