-- What the definitions on headers of TCP give, case by case.
use Rattle.std.proofs.Common.{◌≡◌, ℕ, ◌+◌, ◌-◌, ◌*◌, ◌/◌, ◌<◌, ◌≤◌, nat_lt, true, false, List, ◌∷◌, length, get_or, take, drop}
use Rattle.std.proofs.Common.{Option, Some, None, refl, ap, ◌∙◌, arith, lt-ltb, le-ltb}
use Rattle.std.proofs.lemmas.List.{take_rest, drop-drop, get_or-drop, length-drop}
use Rattle.bt_packet.specs.Bytes.{word, long_word}
use Rattle.bt_packet.specs.Tcp.{tcp, port_of, flags_of, acked_of, has_bit}
use Rattle.bt_packet.specs.declared.address.Host.{Host}
use Rattle.bt_packet.specs.declared.tcp.Flags.{Flags}

pub tcp_short : (source target : Host) (size : ℕ) (p : List ℕ) → length p < 20 → tcp source target size p ≡ None
unfolding tcp
tcp_short source target size (a ∷ b ∷ c ∷ d ∷ e ∷ f ∷ g ∷ h ∷ i ∷ j ∷ k ∷ l ∷ m ∷ n ∷ o ∷ p ∷ q ∷ r ∷ s ∷ t ∷ rest) short = absurd (omega arith)
tcp_short source target size _ short = refl

-- the numbers are there, and what follows them isn't
pub tcp_cut : (source target : Host) (size : ℕ) (p : List ℕ) → 12 ≤ length p → length (take (length p - 12) (drop 12 p)) < 8 → tcp source target size p ≡ None
tcp_cut source target size p some short = tcp_short source target size p (omega (arith, length-drop 12 p, ap length (take_rest p 12)))

long : (p : List ℕ) → 12 ≤ length p → 8 ≤ length (take (length p - 12) (drop 12 p)) → 20 ≤ length p
long p some more = omega (arith, length-drop 12 p, ap length (take_rest p 12))

at_rest : (p : List ℕ) (i : ℕ) → get_or (take (length p - 12) (drop 12 p)) i 0 ≡ get_or p (12 + i) 0
at_rest p i = rw (take_rest p 12) (get_or-drop 12 p i 0)

tcp_low_whole : (source target : Host) (size : ℕ) (p : List ℕ) → 20 ≤ length p → get_or p 12 0 / 16 < 5 → tcp source target size p ≡ None
unfolding tcp
tcp_low_whole source target size (a ∷ b ∷ c ∷ d ∷ e ∷ f ∷ g ∷ h ∷ i ∷ j ∷ k ∷ l ∷ m ∷ n ∷ o ∷ p ∷ q ∷ r ∷ s ∷ t ∷ rest) enough low =
    let e : nat_lt (m / 16) 5 ≡ true = lt-ltb (m / 16) 5 low in rw e refl
tcp_low_whole source target size _ enough low = absurd (omega arith)

-- the data offset is too low
pub tcp_low : (source target : Host) (size : ℕ) (p : List ℕ) → 12 ≤ length p → 8 ≤ length (take (length p - 12) (drop 12 p))
    → get_or (take (length p - 12) (drop 12 p)) 0 0 / 16 < 5 → tcp source target size p ≡ None
tcp_low source target size p some more low = tcp_low_whole source target size p (long p some more) (rw at_rest at low)

tcp_whole : (source target : Host) (size : ℕ) (p : List ℕ) → 20 ≤ length p → 5 ≤ get_or p 12 0 / 16
    → tcp source target size p ≡ Some (record {
      source = port_of source (get_or p 0 0) (get_or p 1 0);
      target = port_of target (get_or p 2 0) (get_or p 3 0);
      sequence = long_word (get_or p 4 0) (get_or p 5 0) (get_or p 6 0) (get_or p 7 0);
      acked = acked_of (has_bit (get_or p 13 0) 16) (long_word (get_or p 8 0) (get_or p 9 0) (get_or p 10 0) (get_or p 11 0));
      flags = flags_of (get_or p 13 0);
      payload = drop (4 * (get_or p 12 0 / 16) - 20) (drop 20 p);
      size = size - 4 * (get_or p 12 0 / 16);
    })
unfolding tcp
tcp_whole source target size (a ∷ b ∷ c ∷ d ∷ e ∷ f ∷ g ∷ h ∷ i ∷ j ∷ k ∷ l ∷ m ∷ n ∷ o ∷ p ∷ q ∷ r ∷ s ∷ t ∷ rest) enough high =
    let e : nat_lt (m / 16) 5 ≡ false = le-ltb (m / 16) 5 high in rw e refl
tcp_whole source target size _ enough high = absurd (omega arith)

-- what a whole header says
pub tcp_read : (source target : Host) (size : ℕ) (p rest : List ℕ) (from to sequence number header left : ℕ) (acked : Option ℕ)
    (flags : Flags) (payload : List ℕ)
    → 12 ≤ length p → rest ≡ take (length p - 12) (drop 12 p) → 8 ≤ length rest → 5 ≤ get_or rest 0 0 / 16
    → from ≡ word (get_or p 0 0) (get_or p 1 0) → to ≡ word (get_or p 2 0) (get_or p 3 0)
    → sequence ≡ long_word (get_or p 4 0) (get_or p 5 0) (get_or p 6 0) (get_or p 7 0)
    → number ≡ long_word (get_or p 8 0) (get_or p 9 0) (get_or p 10 0) (get_or p 11 0)
    → flags ≡ flags_of (get_or rest 1 0) → acked ≡ acked_of flags.ack number → header ≡ 4 * (get_or rest 0 0 / 16)
    → payload ≡ drop (header - 20) (take (length rest - 8) (drop 8 rest)) → left ≡ size - header
    → Some (record {
      source = record { host = source; port = from };
      target = record { host = target; port = to };
      sequence = sequence;
      acked = acked;
      flags = flags;
      payload = payload;
      size = left;
    }) ≡ tcp source target size p
tcp_read source target size p rest from to sequence number header left acked flags payload some is more high f t s n g a h d l =
    let r : rest ≡ drop 12 p = is ∙ take_rest p 12 in
    let o : get_or rest 0 0 ≡ get_or p 12 0 = ap (λ (x : List ℕ). get_or x 0 0) r ∙ get_or-drop 12 p 0 0 in
    let b : get_or rest 1 0 ≡ get_or p 13 0 = ap (λ (x : List ℕ). get_or x 1 0) r ∙ get_or-drop 12 p 1 0 in
    let enough : 20 ≤ length p = omega (arith, length-drop 12 p, ap length r) in
    let tail : take (length rest - 8) (drop 8 rest) ≡ drop 20 p = take_rest rest 8 ∙ ap (drop 8) r ∙ drop-drop 8 12 p in
    let high' : 5 ≤ get_or p 12 0 / 16 = rw (← o) high in
    rw (tcp_whole source target size p enough high', f, t, s, a, n, g, b, d, l, h, o, tail) refl
