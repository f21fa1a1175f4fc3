-- What the options of an interface say, option by option.
use Rattle.std.proofs.Common.{◌≡◌, ◌≢◌, ℕ, zero, suc, ◌-◌, ◌<◌, ◌≤◌, true, false, List, length, take, drop, refl, sym, ap, subst, ◌∙◌, arith, Option}
use Rattle.std.proofs.Common.{None}
use Rattle.std.proofs.lemmas.Bool.Decides.{nat_tests}
use Rattle.std.proofs.lemmas.List.{length-drop, take_all}
use Rattle.bt_pcap.specs.declared.numbers.Order.{Order}
use Rattle.bt_pcap.specs.Numbers.{number16}
use Rattle.bt_pcap.specs.Options.{padded, is_option, front_of, value_in}

pub ended : (fuel : ℕ) (order : Order) (wanted long : ℕ) (rest : List ℕ) → length rest < 4 → value_in fuel order wanted long rest ≡ None
ended zero order wanted long rest lt = refl
ended (suc n) order wanted long rest lt = grind (arith, nat_tests)

pub stopped : (fuel : ℕ) (order : Order) (wanted long : ℕ) (rest : List ℕ) → number16 order rest ≡ 0 → value_in fuel order wanted long rest ≡ None
stopped zero order wanted long rest e = refl
stopped (suc n) order wanted long rest e = grind (arith, nat_tests)

pub found : (fuel : ℕ) (order : Order) (wanted long : ℕ) (rest value : List ℕ) → length rest ≤ fuel → 4 ≤ length rest → value ≡ drop 2 (drop 2 rest)
    → number16 order rest ≢ 0 → is_option wanted long (number16 order rest) (number16 order (drop 2 rest)) ≡ true → value_in fuel order wanted long rest ≡ front_of long value
found zero order wanted long rest value enough le e counts is = absurd (omega arith)
found (suc n) order wanted long rest value enough le e counts is = grind (arith, nat_tests)

pub cut : (fuel : ℕ) (order : Order) (wanted long : ℕ) (rest value : List ℕ) → length rest ≤ fuel → 4 ≤ length rest → value ≡ drop 2 (drop 2 rest)
    → is_option wanted long (number16 order rest) (number16 order (drop 2 rest)) ≡ false → length value < padded (number16 order (drop 2 rest))
    → value_in fuel order wanted long rest ≡ None
cut zero order wanted long rest value enough le e is lt = absurd (omega arith)
cut (suc n) order wanted long rest value enough le e is lt = grind (arith, nat_tests)

pub passed : (fuel : ℕ) (order : Order) (wanted long : ℕ) (rest value : List ℕ) → length rest ≤ fuel → 4 ≤ length rest → value ≡ drop 2 (drop 2 rest)
    → number16 order rest ≢ 0 → is_option wanted long (number16 order rest) (number16 order (drop 2 rest)) ≡ false → padded (number16 order (drop 2 rest)) ≤ length value
    → (m : ℕ) × (length (drop (padded (number16 order (drop 2 rest))) value) ≤ m) × (value_in m order wanted long (drop (padded (number16 order
    (drop 2 rest))) value) ≡ value_in fuel order wanted long rest)
passed zero order wanted long rest value enough le e counts is ge = absurd (omega arith)
passed (suc n) order wanted long rest value enough le e counts is ge = (
  n,
  omega (
    arith,
    length-drop (padded (number16 order (drop 2 rest))) value,
    ap (length {A = ℕ}) e,
    length-drop 2
        (drop 2 rest),
    length-drop 2 rest,
  ),
  grind (arith, nat_tests),
)

-- the same, at the code's values
pub goes_on : (fuel : ℕ) (order : Order) (wanted long : ℕ) (rest value : List ℕ) (size : ℕ) (target : Option (List ℕ)) → length rest ≤ fuel
    → 4 ≤ length rest → value ≡ drop 2 (drop 2 rest) → size ≡ number16 order (drop 2 rest) → number16 order rest ≢ 0
    → is_option wanted long (number16 order rest) (number16 order (drop 2 rest)) ≡ false → padded size ≤ length value
    → value_in fuel order wanted long rest ≡ target
    → (m : ℕ) × (length (take (length value - padded size) (drop (padded size) value)) ≤ m) × (value_in m order wanted long (take
    (length value - padded size) (drop (padded size) value)) ≡ target)
goes_on fuel order wanted long rest value size target enough le e s counts is ge t =
    let after = passed fuel order wanted long rest value enough le e counts is (subst (λ (k : ℕ). padded k ≤ length value) s ge) in
    let same : take (length value - padded size) (drop (padded size) value) ≡ drop (padded (number16 order (drop 2 rest))) value =
    take_all (length value - padded size) (drop (padded size) value) (omega (arith, length-drop (padded size) value))
    ∙ ap (λ (k : ℕ). drop (padded k) value) s in
    (after.0, subst (λ (x : List ℕ). length x ≤ after.0) (sym same) after.1, ap (value_in after.0 order wanted long) same ∙ (after.2 ∙ t))
