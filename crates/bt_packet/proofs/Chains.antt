-- Chains of extensions of uTP.
use Rattle.std.proofs.Common.{◌≡◌, ℕ, zero, suc, ◌-◌, ◌<◌, ◌≤◌, ◌==◌, nat_le, Bool, true, false, if◌then◌else◌, List, [], ◌∷◌, length, get_or, take, drop}
use Rattle.std.proofs.Common.{fold, Option, Some, None, option_map, option_and_then, ap, sym, ◌∙◌, refl, arith}
use Rattle.std.proofs.lemmas.List.{take_rest, length-drop}
use Rattle.bt_packet.specs.Bytes.{after}
use Rattle.bt_packet.specs.Utp.{UtpExtension, chain, with_extension, later_reason}

-- what a chain says after this reason, and what follows it
abbrev pub says : Option ℕ → List UtpExtension × List ℕ → Option ℕ × List ℕ
says reason c = (fold later_reason reason c.0, c.1)

abbrev pub said : Option ℕ → ℕ → List ℕ → Option (Option ℕ × List ℕ)
said reason kind bytes = option_map (says reason) (chain (length bytes) kind bytes)

pub chain_end : (n : ℕ) (bytes : List ℕ) → chain n 0 bytes ≡ Some ([], bytes)
unfolding chain
chain_end zero bytes = refl
chain_end (suc n) (next ∷ size ∷ rest) = refl
chain_end (suc n) (next ∷ []) = refl
chain_end (suc n) [] = refl

pub chain_ends : (reason : Option ℕ) (bytes : List ℕ) → said reason 0 bytes ≡ Some (reason, bytes)
chain_ends reason bytes = ap (option_map (says reason)) (chain_end (length bytes) bytes)

pub chain_short : (n kind : ℕ) (bytes : List ℕ) → (kind == 0) ≡ false → length bytes < 2 → chain n kind bytes ≡ None
unfolding chain
chain_short zero kind bytes e short = rw e refl
chain_short (suc n) kind (next ∷ size ∷ rest) e short = absurd (omega arith)
chain_short (suc n) kind (next ∷ []) e short = rw e refl
chain_short (suc n) kind [] e short = rw e refl

pub chain_cut : (reason : Option ℕ) (kind : ℕ) (bytes : List ℕ) → (kind == 0) ≡ false → length bytes < 2 → said reason kind bytes ≡ None
chain_cut reason kind bytes e short = ap (option_map (says reason)) (chain_short (length bytes) kind bytes e short)

abbrev pub first_extension : ℕ → ℕ → List ℕ → UtpExtension
first_extension kind size rest = record { kind = kind; content = take size rest }

-- what one extension leaves to the next
pub chain_next : (n kind next size : ℕ) (rest : List ℕ) → (kind == 0) ≡ false
    → chain (suc n) kind (next ∷ size ∷ rest)
    ≡ option_and_then (λ left. option_map (with_extension (first_extension kind size rest)) (chain n next left)) (after size rest)
unfolding chain
chain_next n kind next size rest e = rw e refl

picked : (b : Bool) (xs r : List ℕ) → (if b then Some xs else None) ≡ Some r → xs ≡ r
picked true xs r e = cc
picked false xs r e = cc

-- what follows is no longer
after_shorter : (j : ℕ) (bytes r : List ℕ) → after j bytes ≡ Some r → length r ≤ length bytes
after_shorter j bytes r e = let d : drop j bytes ≡ r = picked (nat_le j (length bytes)) (drop j bytes) r e in rw (← d) (omega (arith, length-drop j bytes))

bind_same : (f g : List ℕ → Option (List UtpExtension × List ℕ)) (o : Option (List ℕ)) → ((r : List ℕ) → o ≡ Some r → f r ≡ g r)
    → option_and_then f o ≡ option_and_then g o
bind_same f g None h = refl
bind_same f g (Some r) h = h r refl

chain_nil : (n m kind : ℕ) → chain n kind [] ≡ chain m kind []
unfolding chain
chain_nil zero zero kind = refl
chain_nil zero (suc m) kind = refl
chain_nil (suc n) zero kind = refl
chain_nil (suc n) (suc m) kind = refl

chain_one : (n m kind a : ℕ) → chain n kind (a ∷ []) ≡ chain m kind (a ∷ [])
unfolding chain
chain_one zero zero kind a = refl
chain_one zero (suc m) kind a = refl
chain_one (suc n) zero kind a = refl
chain_one (suc n) (suc m) kind a = refl

-- the count of extensions doesn't matter, if it isn't less than the bytes
pub enough : (k n m kind : ℕ) (bytes : List ℕ) → length bytes ≤ k → length bytes ≤ n → length bytes ≤ m → chain n kind bytes ≡ chain m kind bytes
unfolding chain
enough k n m kind [] hk hn hm = chain_nil n m kind
enough k n m kind (a ∷ []) hk hn hm = chain_one n m kind a
enough (suc k) (suc n) (suc m) kind (a ∷ b ∷ rest) hk hn hm =
    let with : List UtpExtension × List ℕ → List UtpExtension × List ℕ = with_extension (first_extension kind b rest) in
    let alike : (r : List ℕ) → after b rest ≡ Some r → option_map with (chain n a r) ≡ option_map with (chain m a r) = (λ r e. (
    let s : length r ≤ length rest = after_shorter b rest r e in ap (option_map with) (enough k n m a r (omega arith) (omega arith) (omega arith)))) in
    ap (λ (x : Option (List UtpExtension × List ℕ)). if kind == 0 then Some ([], a ∷ b ∷ rest) else x)
    (bind_same (λ r. option_map with (chain n a r)) (λ r. option_map with (chain m a r)) (after b rest) alike)
enough zero n m kind (a ∷ b ∷ rest) hk hn hm = absurd (omega arith)
enough (suc k) zero m kind (a ∷ b ∷ rest) hk hn hm = absurd (omega arith)
enough (suc k) (suc n) zero kind (a ∷ b ∷ rest) hk hn hm = absurd (omega arith)

-- one extension is said, and then the others
says_first : (reason : Option ℕ) (e : UtpExtension) (o : Option (List UtpExtension × List ℕ))
    → option_map (says reason) (option_map (with_extension e) o) ≡ option_map (says (later_reason reason e)) o
says_first reason e None = refl
says_first reason e (Some c) = refl

pub chain_step : (reason later : Option ℕ) (kind next size same : ℕ) (bytes rest left content : List ℕ) → (kind == 0) ≡ false → 2 ≤ length bytes
    → next ≡ get_or bytes 0 0 → size ≡ get_or bytes 1 0 → same ≡ get_or bytes 1 0 → rest ≡ take (length bytes - 2) (drop 2 bytes)
    → Some left ≡ after size rest → content ≡ take same rest → later ≡ later_reason reason (record { kind = kind; content = content })
    → said reason kind bytes ≡ said later next left
chain_step reason later kind next size same (a ∷ b ∷ tail) rest left content e h is_next is_size is_same is_rest is is_content is_later =
    let tail_is : rest ≡ tail = is_rest ∙ take_rest (a ∷ b ∷ tail) 2 in
    let is' : after b tail ≡ Some left = ap (λ x. after x tail) (sym is_size) ∙ ap (after size) (sym tail_is) ∙ sym is in
    let short : length left ≤ length tail = after_shorter b tail left is' in
    let from : chain (suc (length tail)) a left ≡ chain (length left) a left =
    enough (length left) (suc (length tail)) (length left) a left (omega arith) (omega arith) (omega arith) in
    let first : UtpExtension = first_extension kind b tail in
    let reads : later ≡ later_reason reason first =
    is_later ∙ ap (λ x. later_reason reason (record { kind = kind; content = x })) (is_content ∙ ap (λ x. take x rest) is_same ∙ ap (take b) tail_is) in
    let opens : chain (length (a ∷ b ∷ tail)) kind (a ∷ b ∷ tail) ≡ option_map (with_extension first) (chain (length left) a left) =
    chain_next (suc (length tail)) kind a b tail e
    ∙ ap (option_and_then (λ x. option_map (with_extension first) (chain (suc (length tail)) a x))) is'
    ∙ ap (option_map (with_extension first)) from in
    ap (option_map (says reason)) opens ∙ says_first reason first (chain (length left) a left)
    ∙ ap (λ x. option_map (says x) (chain (length left) a left)) (sym reads)
    ∙ ap (λ x. option_map (says later) (chain (length left) x left)) (sym is_next)
chain_step reason later kind next size same (a ∷ []) rest left content e h is_next is_size is_same is_rest is is_content is_later = absurd (omega arith)
chain_step reason later kind next size same [] rest left content e h is_next is_size is_same is_rest is is_content is_later = absurd (omega arith)

pub chain_none : (reason : Option ℕ) (kind size : ℕ) (bytes rest : List ℕ) → (kind == 0) ≡ false → 2 ≤ length bytes → size ≡ get_or bytes 1 0
    → rest ≡ take (length bytes - 2) (drop 2 bytes) → None ≡ after size rest → None ≡ said reason kind bytes
chain_none reason kind size (a ∷ b ∷ tail) rest e h is_size is_rest is =
    let is' : after b tail ≡ None =
    ap (λ x. after x tail) (sym is_size) ∙ ap (after size) (sym (is_rest ∙ take_rest (a ∷ b ∷ tail) 2)) ∙ sym is in
    let opens : chain (length (a ∷ b ∷ tail)) kind (a ∷ b ∷ tail) ≡ None =
    chain_next (suc (length tail)) kind a b tail e
    ∙ ap (option_and_then (λ x. option_map (with_extension (first_extension kind b tail)) (chain (suc (length tail)) a x))) is' in
    ap (option_map (says reason)) (sym opens)
chain_none reason kind size (a ∷ []) rest e h is_size is_rest is = absurd (omega arith)
chain_none reason kind size [] rest e h is_size is_rest is = absurd (omega arith)
