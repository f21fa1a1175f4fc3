-- What the definitions on packets give, case by case.
use Rattle.std.proofs.Common.{◌≡◌, ℕ, ◌+◌, ◌-◌, ◌/◌, ◌<◌, ◌≤◌, ◌==◌, nat_lt, true, false, if◌then◌else◌, List, [], ◌∷◌, length, get_or, take, drop}
use Rattle.std.proofs.Common.{Some, None, ap, sym, ◌∙◌, refl, arith, inl, inr, lt-ltb, le-ltb}
use Rattle.std.proofs.lemmas.Bool.{cases_lt}
use Rattle.std.proofs.lemmas.List.{take_rest, drop-drop, length-drop}
use Rattle.bt_packet.specs.Bytes.{word}
use Rattle.bt_packet.specs.Ip.{is_fragment, total_of, ipv4, ipv4_header, ipv4_whole, ipv6, ipv6_whole, upper, after_ipv6, ip}
use Rattle.bt_packet.specs.declared.address.Host.{Host}
use Rattle.bt_packet.specs.declared.address.Host.TheVariants.{V4, V6}

-- the four bytes at i
abbrev pub host_at : List ℕ → ℕ → Host
host_at p i = V4 (get_or p i 0 ∷ get_or p (i + 1) 0 ∷ get_or p (i + 2) 0 ∷ get_or p (i + 3) 0 ∷ [])

pub ipv4_short : (p : List ℕ) (wire : ℕ) → length p < 20 → ipv4 wire p ≡ None
unfolding ipv4
ipv4_short (a ∷ b ∷ c ∷ d ∷ e ∷ f ∷ g ∷ h ∷ i ∷ j ∷ k ∷ l ∷ m ∷ n ∷ o ∷ p ∷ q ∷ r ∷ s ∷ t ∷ rest) wire short = absurd (omega arith)
ipv4_short _ wire short = refl

-- what a packet of 20 bytes and more carries
pub ipv4_read : (p : List ℕ) (wire : ℕ) → 20 ≤ length p
    → ipv4 wire p ≡ (if is_fragment (word (get_or p 6 0) (get_or p 7 0)) then None
    else ipv4_whole (ipv4_header (get_or p 0 0)) (total_of (word (get_or p 2 0) (get_or p 3 0)) wire) (get_or p 9 0)
    (host_at p 12) (host_at p 16) (take (length p - 20) (drop 20 p)))
unfolding ipv4
ipv4_read (a ∷ b ∷ c ∷ d ∷ e ∷ f ∷ g ∷ h ∷ i ∷ j ∷ k ∷ l ∷ m ∷ n ∷ o ∷ p ∷ q ∷ r ∷ s ∷ t ∷ rest) wire enough =
    rw (take_rest (a ∷ b ∷ c ∷ d ∷ e ∷ f ∷ g ∷ h ∷ i ∷ j ∷ k ∷ l ∷ m ∷ n ∷ o ∷ p ∷ q ∷ r ∷ s ∷ t ∷ rest) 20) refl
ipv4_read _ wire enough = absurd (omega arith)

hosts : (p : List ℕ) → 20 ≤ length p → (V4 (take 4 (drop 12 p)) ≡ host_at p 12) × (V4 (take 4 (drop 16 p)) ≡ host_at p 16)
hosts (a ∷ b ∷ c ∷ d ∷ e ∷ f ∷ g ∷ h ∷ i ∷ j ∷ k ∷ l ∷ m ∷ n ∷ o ∷ p ∷ q ∷ r ∷ s ∷ t ∷ rest) enough = (refl, refl)
hosts _ enough = absurd (omega arith)

-- the addresses and what follows them, cut off one by one
pub record AreParts (p rest source rest2 target rest3 : List ℕ) : Type 0 where
  pub enough : 12 ≤ length p
  pub rest_is : rest ≡ take (length p - 12) (drop 12 p)
  pub source_is : source ≡ take 4 rest
  pub rest2_is : rest2 ≡ drop 4 rest
  pub size2 : length rest2 + 4 ≡ length rest
  pub target_is : target ≡ take 4 rest2
  pub rest3_is : rest3 ≡ drop 4 rest2
  pub size3 : length rest3 + 4 ≡ length rest2

long : (p rest source rest2 target rest3 : List ℕ) → AreParts p rest source rest2 target rest3 → 20 ≤ length p
long p rest source rest2 target rest3 a = let r : rest ≡ drop 12 p = a.rest_is ∙ take_rest p 12 in
    omega (arith, a.size2, a.size3, a.enough, ap length r, length-drop 12 p)

pub ipv4_fragment : (p rest source rest2 target rest3 : List ℕ) (wire flags : ℕ) → AreParts p rest source rest2 target rest3
    → flags ≡ word (get_or p 6 0) (get_or p 7 0) → is_fragment flags ≡ true → None ≡ ipv4 wire p
ipv4_fragment p rest source rest2 target rest3 wire flags a e fragment =
    let f : is_fragment (word (get_or p 6 0) (get_or p 7 0)) ≡ true = rw (← e) fragment in
    rw (ipv4_read p wire (long p rest source rest2 target rest3 a), f) refl

-- a packet that is no fragment
pub ipv4_kept : (p rest source rest2 target rest3 : List ℕ) (wire flags said total header : ℕ) → AreParts p rest source rest2 target rest3
    → flags ≡ word (get_or p 6 0) (get_or p 7 0) → is_fragment flags ≡ false
    → said ≡ word (get_or p 2 0) (get_or p 3 0) → total ≡ total_of said wire → header ≡ ipv4_header (get_or p 0 0)
    → ipv4 wire p ≡ ipv4_whole header total (get_or p 9 0) (V4 source) (V4 target) rest3
ipv4_kept p rest source rest2 target rest3 wire flags said total header a e whole e2 t h =
    let enough : 20 ≤ length p = long p rest source rest2 target rest3 a in
    let f : is_fragment (word (get_or p 6 0) (get_or p 7 0)) ≡ false = rw (← e) whole in
    let r : rest ≡ drop 12 p = a.rest_is ∙ take_rest p 12 in
    let r2 : rest2 ≡ drop 16 p = a.rest2_is ∙ ap (drop 4) r ∙ drop-drop 4 12 p in
    let r3 : rest3 ≡ take (length p - 20) (drop 20 p) = a.rest3_is ∙ ap (drop 4) r2 ∙ drop-drop 4 16 p ∙ sym (take_rest p 20) in
    let s : V4 source ≡ host_at p 12 = ap (λ (x : List ℕ). V4 x) (a.source_is ∙ ap (take 4) r) ∙ (hosts p enough).0 in
    let d : V4 target ≡ host_at p 16 = ap (λ (x : List ℕ). V4 x) (a.target_is ∙ ap (take 4) r2) ∙ (hosts p enough).1 in
    rw (ipv4_read p wire enough, f, t, e2, h, s, d, r3) refl

-- ---- version 6

pub ipv6_read : (p : List ℕ) (wire : ℕ) → 8 ≤ length p
    → ipv6 wire p ≡ after_ipv6 (total_of (word (get_or p 4 0) (get_or p 5 0)) (wire - 40)) (get_or p 6 0) (drop 8 p)
unfolding ipv6
ipv6_read (a ∷ b ∷ c ∷ d ∷ e ∷ f ∷ g ∷ h ∷ rest) wire enough = refl
ipv6_read _ wire enough = absurd (omega arith)

pub ipv6_empty : (p : List ℕ) (wire : ℕ) → length p < 8 → ipv6 wire p ≡ None
unfolding ipv6
ipv6_empty (a ∷ b ∷ c ∷ d ∷ e ∷ f ∷ g ∷ h ∷ rest) wire short = absurd (omega arith)
ipv6_empty _ wire short = refl

after_ipv6_short : (size protocol : ℕ) (rest : List ℕ) → length rest < 32 → after_ipv6 size protocol rest ≡ None
after_ipv6_short size protocol rest short = let e : nat_lt (length rest) 32 ≡ true = lt-ltb (length rest) 32 short in rw e refl

pub ipv6_short : (p : List ℕ) (wire : ℕ) → length p < 40 → ipv6 wire p ≡ None
ipv6_short p wire short =
    elim (cases_lt (length p) 8)
    [ inl h ↦ ipv6_empty p wire h | inr h ↦ ipv6_read p wire h ∙ after_ipv6_short _ _ (drop 8 p) (omega (arith, length-drop 8 p)) ]

after_ipv6_long : (size protocol : ℕ) (rest : List ℕ) → 32 ≤ length rest
    → after_ipv6 size protocol rest ≡ ipv6_whole protocol (V6 (take 16 rest)) (V6 (take 16 (drop 16 rest))) size (take size (drop 32 rest))
after_ipv6_long size protocol rest long = let e : nat_lt (length rest) 32 ≡ false = le-ltb (length rest) 32 long in rw e refl

pub ipv6_kept : (p rest rest2 rest3 source target payload : List ℕ) (wire said size : ℕ) → 8 ≤ length p → said ≡ word (get_or p 4 0) (get_or p 5 0)
    → size ≡ total_of said (wire - 40) → rest ≡ take (length p - 8) (drop 8 p) → source ≡ take 16 rest → rest2 ≡ drop 16 rest → length rest2 + 16 ≡ length rest
    → target ≡ take 16 rest2 → rest3 ≡ drop 16 rest2 → length rest3 + 16 ≡ length rest2 → payload ≡ take size rest3
    → ipv6 wire p ≡ ipv6_whole (get_or p 6 0) (V6 source) (V6 target) size payload
ipv6_kept p rest rest2 rest3 source target payload wire said size enough e z r s r2 n t r3 n2 l =
    let all : rest ≡ drop 8 p = r ∙ take_rest p 8 in
    let far : rest3 ≡ drop 32 rest = rw (r3, r2) (drop-drop 16 16 rest) in
    let size_is : total_of (word (get_or p 4 0) (get_or p 5 0)) (wire - 40) ≡ size = rw (z, e) refl in
    rw (ipv6_read p wire enough, size_is, ← all, after_ipv6_long size (get_or p 6 0) rest (omega arith), s, t, r2, l, far) refl

pub ipv6_some : (source target payload above : List ℕ) (next protocol size left : ℕ) → Some (protocol, above) ≡ upper (length payload) next payload
    → left ≡ size - (length payload - length above)
    → Some (record { protocol = protocol; source = V6 source; target = V6 target; payload = above; size = left })
    ≡ ipv6_whole next (V6 source) (V6 target) size payload
ipv6_some source target payload above next protocol size left some e = rw (e, ← some) refl

-- ---- the version

pub ip_empty : (p : List ℕ) (wire : ℕ) → length p < 1 → ip wire p ≡ None
unfolding ip
ip_empty (a ∷ rest) wire short = absurd (omega arith)
ip_empty [] wire short = refl

pub ip_four : (p : List ℕ) (wire : ℕ) → 1 ≤ length p → get_or p 0 0 / 16 ≡ 4 → ip wire p ≡ ipv4 wire p
unfolding ip
ip_four (a ∷ rest) wire enough e = rw e refl
ip_four [] wire enough e = absurd (omega arith)

pub ip_six : (p : List ℕ) (wire : ℕ) → 1 ≤ length p → get_or p 0 0 / 16 ≡ 6 → ip wire p ≡ ipv6 wire p
unfolding ip
ip_six (a ∷ rest) wire enough e = rw e refl
ip_six [] wire enough e = absurd (omega arith)

pub ip_other : (p : List ℕ) (wire : ℕ) → 1 ≤ length p → (get_or p 0 0 / 16 == 4) ≡ false → (get_or p 0 0 / 16 == 6) ≡ false → ip wire p ≡ None
unfolding ip
ip_other (a ∷ rest) wire enough e f = rw (e, f) refl
ip_other [] wire enough e f = absurd (omega arith)
