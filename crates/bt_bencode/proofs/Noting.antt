-- The pass that also notes the values of keys, part by part.
use Rattle.std.proofs.Common.{◌≡◌, ℕ, ◌≤◌, List, ◌∷◌, ◌++◌, length, get_or, drop, Option, Some, None, Bor, Bool, true, false, refl, ap, sym, ◌∙◌, arith}
use Rattle.std.specs.Str.{bytes_eq}
use Rattle.std.specs.Option.{option_or}
use Rattle.std.specs.Bool.{then_some}
use Rattle.bt_bencode.specs.Trees.{Tree, Pairs, no_pairs, pair}
use Rattle.bt_bencode.specs.Bencoding.{ben, ben_pairs, ben_string, longest_string, InRange}
use Rattle.bt_bencode.specs.Keys.{IsAbove, PairsAreSorted, value_at}
use Rattle.bt_bencode.specs.Readable.{FindsValue}
use Rattle.bt_bencode.specs.Room.{PairsFitIn}
use Rattle.bt_bencode.specs.OnePass.{PassesValue, PassesNoted}
use Rattle.bt_bencode.specs.declared.noted.Noted.{Noted}
use Rattle.bt_bencode.specs.Unique.{regroup}
use Rattle.bt_bencode.proofs.Heads.{headed}
use Rattle.bt_bencode.proofs.Nesting.{in_range}

-- the value of a key in the pairs is found, or it is that of the further pairs
abbrev pub IsNoted : List ℕ → Option (Bor (List ℕ)) → Pairs → Pairs → Type 0
IsNoted key None us ps = value_at key ps ≡ value_at key us
IsNoted key (Some v) us ps = FindsValue (Some v) (value_at key ps)

-- the further pairs `us`, which follow a last key and are followed by `more`, end these pairs
pub record Ends (one two three bytes : List ℕ) (a b c : Option (Bor (List ℕ))) (us : Pairs) (more : List ℕ) : Type 0 where
  pub pairs : Pairs
  pub fit : PairsFitIn 31 pairs
  pub sorted : PairsAreSorted None pairs
  pub spelled : bytes ≡ ben_pairs pairs ++ 101 ∷ more
  pub first : IsNoted one a us pairs
  pub second : IsNoted two b us pairs
  pub third : IsNoted three c us pairs

abbrev pub IsPassed : List ℕ → List ℕ → List ℕ → List ℕ → Option (Bor (List ℕ)) → Option (Bor (List ℕ)) → Option (Bor (List ℕ))
    → Option (List ℕ) → List ℕ → Type 0
IsPassed one two three bytes a b c last rest =
    (us : Pairs) (more : List ℕ) → PairsFitIn 31 us → PairsAreSorted last us → rest ≡ ben_pairs us ++ 101 ∷ more
    → Ends one two three bytes a b c us more

pub none_passed : (one two three bytes : List ℕ) → IsPassed one two three bytes None None None None bytes
none_passed one two three bytes = λ us more fit sorted is. record {
  pairs = us;
  fit = fit;
  sorted = sorted;
  spelled = is;
  first = refl;
  second = refl;
  third = refl;
}

noted_end : (key : List ℕ) (found : Option (Bor (List ℕ))) (ps : Pairs) → IsNoted key found no_pairs ps → FindsValue found (value_at key ps)
noted_end key None ps h = h
noted_end key (Some v) ps h = h

-- a dictionary's end
pub end_noted : (one two three bytes rest : List ℕ) (last : Option (List ℕ)) (x : Noted) → get_or rest 0 0 ≡ 101 → x.rest.now ≡ drop 1 rest
    → IsPassed one two three bytes x.first x.second x.third last rest → PassesNoted one two three bytes x
end_noted one two three bytes rest last x e r passed =
    let ends = passed no_pairs x.rest.now tt tt (headed rest 101 e (omega arith) ∙ ap (λ (y : List ℕ). 101 ∷ y) (sym r)) in
    record {
      pairs = ends.pairs;
      fit = ends.fit;
      sorted = ends.sorted;
      spelled = ends.spelled;
      first = noted_end one x.first ends.pairs ends.first;
      second = noted_end two x.second ends.pairs ends.second;
      third = noted_end three x.third ends.pairs ends.third;
    }

-- what is noted of a key after one pair more
step : (wanted key : List ℕ) (value : Bor (List ℕ)) (next : List ℕ) (t : Tree) (us ps : Pairs) (found : Option (Bor (List ℕ))) (b : Bool)
    → b ≡ bytes_eq key wanted → InRange t → value.now ≡ ben t ++ next → IsNoted wanted found (pair key t us) ps
    → IsNoted wanted (option_or found (then_some b value)) us ps
step wanted key value next t us ps (Some v) b e range is h = h
step wanted key value next t us ps None true e range is h =
    let test : bytes_eq key wanted ≡ true = sym e in
    (t, next, h ∙ rw test refl, range, is)
step wanted key value next t us ps None false e range is h =
    let test : bytes_eq key wanted ≡ false = sym e in
    h ∙ rw test refl

-- what the step over a pair computes for a key
pub record Notes (wanted key : List ℕ) (value : Bor (List ℕ)) (found r : Option (Bor (List ℕ))) : Type 0 where
  pub same : Bool
  pub tested : same ≡ bytes_eq key wanted
  pub noted : r ≡ option_or found (then_some same value)

noted_step : (wanted key : List ℕ) (value : Bor (List ℕ)) (next : List ℕ) (t : Tree) (us ps : Pairs) (found r : Option (Bor (List ℕ)))
    → Notes wanted key value found r → InRange t → value.now ≡ ben t ++ next → IsNoted wanted found (pair key t us) ps → IsNoted wanted r us ps
noted_step wanted key value next t us ps found r n range is h = rw n.noted (step wanted key value next t us ps found n.same n.tested range is h)

-- a pair in front of what passes
module _ (one two three bytes : List ℕ) {rest key : List ℕ} (value : Bor (List ℕ)) (next : List ℕ) (short : length key ≤ longest_string)
    (split : rest ≡ ben_string key ++ value.now) (passes : PassesValue 31 value.now next) where
  pub pair_noted : (last : Option (List ℕ)) (a b c a' b' c' : Option (Bor (List ℕ))) → IsAbove last key → Notes one key value a a'
      → Notes two key value b b' → Notes three key value c c' → IsPassed one two three bytes a b c last rest
      → IsPassed one two three bytes a' b' c' (Some key) next
  pair_noted last a b c a' b' c' above n m o passed = λ us more fit sorted is.
      let t = passes.0 in
      let range = in_range 31 t passes.1 in
      let whole : rest ≡ ben_pairs (pair key t us) ++ 101 ∷ more =
      split ∙ ap (λ (x : List ℕ). ben_string key ++ x) (passes.3 ∙ ap (λ (x : List ℕ). ben t ++ x) is)
      ∙ sym (regroup (ben_string key) (ben t) (ben_pairs us) (101 ∷ more)) in
      let ends = passed (pair key t us) more (short, passes.1, fit) (above, passes.2, sorted) whole in
      record {
        pairs = ends.pairs;
        fit = ends.fit;
        sorted = ends.sorted;
        spelled = ends.spelled;
        first = noted_step one key value next t us ends.pairs a a' n range passes.3 ends.first;
        second = noted_step two key value next t us ends.pairs b b' m range passes.3 ends.second;
        third = noted_step three key value next t us ends.pairs c c' o range passes.3 ends.third;
      }
