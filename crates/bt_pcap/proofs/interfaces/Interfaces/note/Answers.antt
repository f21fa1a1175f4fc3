use Rattle.std.proofs.Common.{◌≡◌, ℕ, ◌+◌, ◌<◌, ◌≤◌, List, [], ◌∷◌, ◌++◌, length, take, arith, ◌∙◌, sym, rules}
use Rattle.std.proofs.Math.ListN.{set}
use Rattle.std.proofs.lemmas.List.{take_more_set, take_all, take-append-le, length-take, length-append}
use Rattle.bt_pcap.specs.Interfaces.{interfaces_of}
use Rattle.bt_pcap.proofs.interfaces.Interfaces.note.Goals as goal

-- one more element at the end, within the table
within : {X : Type 0} (xs : List X) (n : ℕ) (x : X) → n < length xs → n < 1024 → take (n + 1) (set xs n x) ≡ take 1024 (take n xs ++ x ∷ [])
within xs n x lt fits =
    take_more_set xs n x lt ∙ sym (take_all 1024 (take n xs ++ x ∷ []) (omega (arith, length-append (take n xs) (x ∷ []), length-take n xs)))

-- no place for one more
past : {X : Type 0} (xs : List X) (n : ℕ) (x : X) → length xs ≡ 1024 → n ≡ 1024 → take n xs ≡ take 1024 (take n xs ++ x ∷ [])
past xs n x len full =
    let size : 1024 ≤ length (take n xs) = omega (arith, length-take n xs) in
    let whole : length (take n xs) ≤ 1024 = omega (arith, length-take n xs) in
    sym (take-append-le 1024 (take n xs) (x ∷ []) size ∙ take_all 1024 (take n xs) whole)

pub returns-then-self-lt-MAX_INTERFACES : goal.returns-then-self-lt-MAX_INTERFACES
unfolding interfaces_of
returns-then-self-lt-MAX_INTERFACES c = within c.args.self.now.table c.args.self.now.count c.args.interface (search rules) (omega arith)

pub returns-else-self-lt-MAX_INTERFACES : goal.returns-else-self-lt-MAX_INTERFACES
unfolding interfaces_of
returns-else-self-lt-MAX_INTERFACES c = past c.args.self.now.table c.args.self.now.count c.args.interface (search rules) (search rules)
