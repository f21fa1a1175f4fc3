-- The value of an option that is read is the one that is written.
use Rattle.std.proofs.Common.{◌≡◌, ◌≢◌, ℕ, zero, suc, ◌+◌, ◌-◌, ◌^◌, ◌<◌, ◌≤◌, ◌⊎◌, Bool, true, false, cond, eqb, ltb, List, [], ◌∷◌, ◌++◌, length, take, drop}
use Rattle.std.proofs.Common.{get_or, refl, sym, ap, subst, ◌∙◌, arith, inl, inr, Option, Some, None}
use Rattle.std.proofs.Math.Seq.{drop-append_seam, take-append_seam}
use Rattle.std.proofs.lemmas.Bool.Decides.{nat_tests}
use Rattle.std.proofs.lemmas.List.{length-append, length-drop, length-take-le, take-append-drop, drop-drop}
use Rattle.std.specs.Prelude.{ℤ}
use Rattle.bt_pcap.specs.declared.numbers.Order.{Order}
use Rattle.bt_pcap.specs.Numbers.{u16, i64, number16, AreBytes}
use Rattle.bt_pcap.specs.Options.{padded, is_option, front_of, Other, IsOther, option, Follows, Ends, few, last, cut, HasValue, found, missing, value_in, value_of}
use Rattle.bt_pcap.specs.Options.{HasResolution, given, microseconds, resolution_by, resolution_of, HasOffset, shifted, unshifted, offset_by, offset_of}
use Rattle.bt_pcap.proofs.NumberLaws.{AreBytes-drop, AreBytes-take, number16-lt, number16-u16, drop-u16, length-u16, split16, signed64-i64, i64-signed64, signed64-fits}
use Rattle.bt_pcap.proofs.Readings.{chosen, eq_true, eq_false, lt_true, lt_false}
use Rattle.bt_pcap.proofs.OptionProofs as options

option_true : (wanted long code size : ℕ) → is_option wanted long code size ≡ true → (code ≡ wanted) × (size ≡ long)
option_true wanted long code size e = (grind (arith, nat_tests), grind (arith, nat_tests))

-- bytes begin with two numbers
two_numbers : (order : Order) (b : List ℕ) → 4 ≤ length b → AreBytes b
    → b ≡ u16 order (number16 order b) ++ (u16 order (number16 order (drop 2 b)) ++ drop 2 (drop 2 b))
two_numbers order b le f =
    split16 order b (omega arith) f
    ∙ ap (λ (x : List ℕ). u16 order (number16 order b) ++ x) (split16 order (drop 2 b) (omega (arith, length-drop 2 b)) (AreBytes-drop 2 b f))

prepend : (order : Order) (wanted long : ℕ) (o : Other) (b mid : List ℕ) (x : Option (List ℕ)) → IsOther wanted long o → b ≡ option order o mid
    → HasValue order wanted long mid x → HasValue order wanted long b x
prepend order wanted long o b mid x i e (found os value r f l s) = found (o ∷ os) value r (mid, i, e, f) l s
prepend order wanted long o b mid x i e (missing os r f n s) = missing (o ∷ os) r (mid, i, e, f) n s

at_option : (order : Order) (wanted long : ℕ) (b v : List ℕ) (x : Option (List ℕ)) → wanted < 2 ^ 16 → long < 2 ^ 16
    → b ≡ u16 order wanted ++ (u16 order long ++ v) → front_of long v ≡ x → HasValue order wanted long b x
at_option order wanted long b v x fw fl e g =
    elim (chosen (ltb (length v) long) None (Some (take long v)) x g) [
      | inl t ↦
          let short : length v < long = lt_true (length v) long t.0 in
          missing [] b refl (cut wanted long v fw fl e (omega arith) (λ _. short)) (sym t.1)
      | inr t ↦
          let enough : long ≤ length v = lt_false (length v) long t.0 in
          found [] (take long v) (drop long v) (e ∙ ap (λ (y : List ℕ). u16 order wanted ++ (u16 order long ++ y)) (sym (take-append-drop long v)))
          (length-take-le long v enough) (sym t.1)
    ]

-- a value with its padding, and the rest
parts : (size : ℕ) (v : List ℕ) → padded size ≤ length v → v ≡ take size v ++ (take (padded size - size) (drop size v) ++ drop (padded size) v)
parts size v le =
    let after : drop (padded size - size) (drop size v) ≡ drop (padded size) v = drop-drop (padded size - size) size v ∙ ap (λ (k : ℕ). drop k v) whole in
    sym (take-append-drop size v) ∙ ap (λ (y : List ℕ). take size v ++ y) (sym (take-append-drop (padded size - size) (drop size v))
    ∙ ap (λ (y : List ℕ). take (padded size - size) (drop size v) ++ y) after)
  where
    whole : size + (padded size - size) ≡ padded size
    whole = omega arith

read_sound : (n : ℕ) (order : Order) (wanted long : ℕ) (b : List ℕ) (x : Option (List ℕ)) → wanted < 2 ^ 16 → long < 2 ^ 16 → length b ≤ n
    → AreBytes b → value_in n order wanted long b ≡ x → HasValue order wanted long b x
read_sound zero order wanted long b x fw fl le f e = missing [] b refl (few (omega arith)) (sym e)
read_sound (suc n) order wanted long b x fw fl le f e =
    let code = number16 order b in
    let size = number16 order (drop 2 b) in
    let v = drop 2 (drop 2 b) in
    let again = value_in n order wanted long (drop (padded size) v) in
    let r3 = cond (ltb (length v) (padded size)) None again in
    let r2 = cond (is_option wanted long code size) (front_of long v) r3 in
    let r1 = cond (eqb code 0) None r2 in
    elim (chosen (ltb (length b) 4) None r1 x e) [
      | inl t ↦ missing [] b refl (few (lt_true (length b) 4 t.0)) (sym t.1)
      | inr t ↦
          let enough : 4 ≤ length b = lt_false (length b) 4 t.0 in
          let whole = two_numbers order b enough f in
          let fv = AreBytes-drop 2 (drop 2 b) (AreBytes-drop 2 b f) in
          elim (chosen (eqb code 0) None r2 x t.1) [
            | inl z ↦
                missing [] b refl (last size v (number16-lt order (drop 2 b) (AreBytes-drop 2 b f))
                (whole ∙ ap (λ (k : ℕ). u16 order k ++ (u16 order size ++ v)) (eq_true code 0 z.0))) (sym z.1)
            | inr z ↦ elim (chosen (is_option wanted long code size) (front_of long v) r3 x z.1) [
              | inl u ↦
                  let is = option_true wanted long code size u.0 in
                  at_option order wanted long b v x fw fl (whole ∙ (ap (λ (k : ℕ). u16 order k ++ (u16 order size ++ v)) is.0
                  ∙ ap (λ (k : ℕ). u16 order wanted ++ (u16 order k ++ v)) is.1)) u.1
              | inr u ↦ elim (chosen (ltb (length v) (padded size)) None again x u.1) [
                | inl w ↦
                    let no : is_option wanted long code size ≡ true → length v < long = λ h. absurd (not_both (is_option wanted long code size) h u.0) in
                    missing [] b refl (cut code size v (number16-lt order b f) (number16-lt order (drop 2 b) (AreBytes-drop 2 b f)) whole (lt_true
                    (length v) (padded size) w.0) no) (sym w.1)
                | inr w ↦
                    let there : padded size ≤ length v = lt_false (length v) (padded size) w.0 in
                    let lv : length (take size v) ≡ size = length-take-le size v (omega arith) in
                    let lp : length (take (padded size - size) (drop size v)) ≡ padded size - size = length-take-le (padded size - size) (drop size v)
                    (omega (arith, length-drop size v)) in
                    let o : Other = record { code = code; value = take size v; padding = take (padded size - size) (drop size v) } in
                    let fits : size < 2 ^ 16 = number16-lt order (drop 2 b) (AreBytes-drop 2 b f) in
                    let is : IsOther wanted long o = record {
                      code_fits = number16-lt order b f;
                      not_last = eq_false code 0 z.0;
                      length_fits = subst (λ (k : ℕ). k < 2 ^ 16) (sym lv) fits;
                      aligned = (omega (arith, lv, lp)) ∙ ap padded (sym lv);
                      other = ap (is_option wanted long code) lv ∙ u.0;
                    } in
                    let mid = drop (padded size) v in
                    let spelled : b ≡ option order o mid =
                    whole ∙ (ap (λ (k : ℕ). u16 order code ++ (u16 order k ++ v)) (sym lv)
                    ∙ ap (λ (y : List ℕ). u16 order code ++ (u16 order (length (take size v)) ++ y)) (parts size v there)) in
                    prepend order wanted long o b mid x is spelled
                    (read_sound n order wanted long mid x fw fl (omega (arith, length-drop (padded size) v, length-drop 2 (drop 2 b), length-drop 2 b))
                    (AreBytes-drop (padded size) v fv) w.1)
              ]
            ]
          ]
    ]
  where
    not_both : (c : Bool) → c ≡ true → c ≡ false → ⊥
    not_both c h g = cc

value_sound : (order : Order) (wanted long : ℕ) (b : List ℕ) (x : Option (List ℕ)) → wanted < 2 ^ 16 → long < 2 ^ 16 → AreBytes b
    → value_of order wanted long b ≡ x → HasValue order wanted long b x
unfolding value_of
value_sound order wanted long b x fw fl f e = read_sound (length b) order wanted long b x fw fl (omega arith) f e

-- What is found is bytes, as many as were looked for.
record IsFound (long : ℕ) (v : List ℕ) : Type 0 where
  pub size : length v ≡ long
  pub bytes : AreBytes v

no_value : (v : List ℕ) → None ≡ Some v → ⊥
no_value v e = cc

value_found : (n : ℕ) (order : Order) (wanted long : ℕ) (b v : List ℕ) → AreBytes b → value_in n order wanted long b ≡ Some v → IsFound long v
value_found zero order wanted long b v f e = absurd (no_value v e)
value_found (suc n) order wanted long b v f e =
    let size = number16 order (drop 2 b) in
    let rest = drop 2 (drop 2 b) in
    let fr = AreBytes-drop 2 (drop 2 b) (AreBytes-drop 2 b f) in
    let r3 = cond (ltb (length rest) (padded size)) None (value_in n order wanted long (drop (padded size) rest)) in
    let r2 = cond (is_option wanted long (number16 order b) size) (front_of long rest) r3 in
    elim (chosen (ltb (length b) 4) None (cond (eqb (number16 order b) 0) None r2) (Some v) e) [
      | inl t ↦ absurd (no_value v t.1)
      | inr t ↦ elim (chosen (eqb (number16 order b) 0) None r2 (Some v) t.1) [
        | inl z ↦ absurd (no_value v z.1)
        | inr z ↦ elim (chosen (is_option wanted long (number16 order b) size) (front_of long rest) r3 (Some v) z.1) [
          | inl u ↦ elim (chosen (ltb (length rest) long) None (Some (take long rest)) (Some v) u.1) [
            | inl w ↦ absurd (no_value v w.1)
            | inr w ↦
                let is : take long rest ≡ v = cc in record {
                  size = sym (ap (length {A = ℕ}) is) ∙ length-take-le long rest (lt_false (length rest) long w.0);
                  bytes = subst AreBytes is (AreBytes-take long rest fr);
                }
          ]
          | inr u ↦ elim (chosen (ltb (length rest) (padded size)) None (value_in n order wanted long (drop (padded size) rest)) (Some v) u.1) [
            | inl w ↦ absurd (no_value v w.1)
            | inr w ↦ value_found n order wanted long (drop (padded size) rest) v (AreBytes-drop (padded size) rest fr) w.1
          ]
        ]
      ]
    ]

found_is : (order : Order) (wanted long : ℕ) (b v : List ℕ) → AreBytes b → value_of order wanted long b ≡ Some v → IsFound long v
unfolding value_of
found_is order wanted long b v f e = value_found (length b) order wanted long b v f e

-- ---- what is written is read

-- what two numbers begin
pub record TwoNumbers (order : Order) (b : List ℕ) (code size : ℕ) (v : List ℕ) : Type 0 where
  pub code_is : number16 order b ≡ code
  pub size_is : number16 order (drop 2 b) ≡ size
  pub rest : drop 2 (drop 2 b) ≡ v
  pub long : length b ≡ 4 + length v

two_again : (order : Order) (b : List ℕ) (code size : ℕ) (v : List ℕ) → b ≡ u16 order code ++ (u16 order size ++ v) → code < 2 ^ 16 → size < 2 ^ 16
    → TwoNumbers order b code size v
two_again order b code size v e fc fs =
    let r1 = u16 order size ++ v in
    let d1 : drop 2 b ≡ r1 = ap (drop 2) e ∙ drop-u16 order code r1 in
    record {
      code_is = ap (number16 order) e ∙ number16-u16 order code r1 fc;
      size_is = ap (number16 order) d1 ∙ number16-u16 order size v fs;
      rest = ap (drop 2) d1 ∙ drop-u16 order size v;
      long = ap (length {A = ℕ}) e ∙ omega (arith, length-u16 order code r1, length-u16 order size v);
    }

follows_again : (wanted long : ℕ) (others : List Other) (n : ℕ) (order : Order) (b rest : List ℕ) → Follows order wanted long others b rest → length b ≤ n
    → (m : ℕ) × (length rest ≤ m) × (value_in m order wanted long rest ≡ value_in n order wanted long b)
follows_again wanted long [] n order b rest f le =
    (n, subst (λ (x : List ℕ). length x ≤ n) f le, ap (value_in n order wanted long) (sym f))
follows_again wanted long (o ∷ os) n order b rest f le =
    let mid = f.0 in
    let is = f.1 in
    let size = length o.value in
    let v = o.value ++ (o.padding ++ mid) in
    let t = two_again order b o.code size v f.2 is.code_fits is.length_fits in
    let value = drop 2 (drop 2 b) in
    let no : is_option wanted long (number16 order b) (number16 order (drop 2 b)) ≡ false = ap (λ (k : ℕ). is_option wanted long k (number16 order
    (drop 2 b))) t.code_is ∙ (ap (is_option wanted long o.code) t.size_is ∙ is.other) in
    let counts : number16 order b ≢ 0 = λ h. is.not_last (sym t.code_is ∙ h) in
    let pad : padded (number16 order (drop 2 b)) ≡ padded size = ap padded t.size_is in
    let lv : length v ≡ size + (length o.padding + length mid) = length-append o.value (o.padding ++ mid)
    ∙ ap (λ (k : ℕ). size + k) (length-append o.padding mid) in
    let al : size + length o.padding ≡ padded size = is.aligned in
    let enough : padded (number16 order (drop 2 b)) ≤ length value = subst (λ (k : ℕ). k ≤ length value) (sym pad) (subst (λ
    (x : List ℕ). padded size ≤ length x) (sym t.rest) (omega (arith, lv, al))) in
    let p = options.passed n order wanted long b value le (omega (arith, t.long)) refl counts no enough in
    let after : drop (padded (number16 order (drop 2 b))) value ≡ mid =
    ap (λ (k : ℕ). drop k value) (pad ∙ sym al) ∙ (ap (drop (size + length o.padding)) t.rest ∙ past o.value o.padding mid) in
    let q = follows_again wanted long os p.0 order mid rest f.3 (subst (λ (x : List ℕ). length x ≤ p.0) after p.1) in
    (q.0, q.1, q.2 ∙ (ap (value_in p.0 order wanted long) (sym after) ∙ p.2))
  where
    past : (a c rest : List ℕ) → drop (length a + length c) (a ++ (c ++ rest)) ≡ rest
    past a c rest = sym (drop-drop (length c) (length a) (a ++ (c ++ rest))) ∙ (ap (drop (length c)) (drop-append_seam a (c ++ rest)) ∙ drop-append_seam c rest)

short_front : (long : ℕ) (v : List ℕ) → length v < long → front_of long v ≡ None
short_front long v lt = grind (arith, nat_tests)

long_front : (long : ℕ) (v rest : List ℕ) → length v ≡ long → front_of long (v ++ rest) ≡ Some v
long_front long v rest l =
    let enough : long ≤ length (v ++ rest) = omega (arith, length-append v rest, l) in
    let first : take long (v ++ rest) ≡ v = subst (λ (k : ℕ). take k (v ++ rest) ≡ v) l (take-append_seam v rest) in
    whole long (v ++ rest) enough ∙ ap (λ (x : List ℕ). Some x) first
  where
    whole : (long : ℕ) (x : List ℕ) → long ≤ length x → front_of long x ≡ Some (take long x)
    whole long x le = grind (arith, nat_tests)

ends_again : (m : ℕ) (order : Order) (wanted long : ℕ) (rest : List ℕ) → 0 < wanted → Ends order wanted long rest → length rest ≤ m
    → value_in m order wanted long rest ≡ None
ends_again m order wanted long rest some (few lt) le = options.ended m order wanted long rest lt
ends_again m order wanted long rest some (last size v fs e) le =
    options.stopped m order wanted long rest (two_again order rest 0 size v e (omega arith) fs).code_is
ends_again m order wanted long rest some (cut code size value fc fs e lt none) le =
    let t = two_again order rest code size value e fc fs in
    let is : is_option wanted long (number16 order rest) (number16 order (drop 2 rest)) ≡ is_option wanted long code size =
    ap (λ (k : ℕ). is_option wanted long k (number16 order (drop 2 rest))) t.code_is ∙ ap (is_option wanted long code) t.size_is in
    elim (cases (is_option wanted long code size)) [
      | inl h ↦
          let counts : number16 order rest ≢ 0 = λ z. absurd (omega (arith, (option_true wanted long code size h).0, t.code_is, z)) in
          options.found m order wanted long rest value le (omega (arith, t.long)) (sym t.rest) counts (is ∙ h) ∙ short_front long value (none h)
      | inr h ↦
          options.cut m order wanted long rest value le (omega (arith, t.long)) (sym t.rest) (is ∙ h)
          (subst (λ (k : ℕ). length value < padded k) (sym t.size_is) lt)
    ]
  where
    cases : (c : Bool) → (c ≡ true) ⊎ (c ≡ false)
    cases true = inl refl
    cases false = inr refl

value_again : (order : Order) (wanted long : ℕ) (b : List ℕ) (x : Option (List ℕ)) → 0 < wanted → wanted < 2 ^ 16 → long < 2 ^ 16
    → HasValue order wanted long b x → value_of order wanted long b ≡ x
unfolding value_of
value_again order wanted long b x some fw fl (found os value r f l s) =
    let at = u16 order wanted ++ (u16 order long ++ (value ++ r)) in
    let q = follows_again wanted long os (length b) order b at f (omega arith) in
    let t = two_again order at wanted long (value ++ r) refl fw fl in
    let is : is_option wanted long (number16 order at) (number16 order (drop 2 at)) ≡ true =
    ap (λ (k : ℕ). is_option wanted long k (number16 order (drop 2 at))) t.code_is ∙ (ap (is_option wanted long wanted) t.size_is ∙ itself wanted long) in
    let counts : number16 order at ≢ 0 = λ z. absurd (omega (arith, t.code_is, z)) in
    sym q.2 ∙ (options.found q.0 order wanted long at (value ++ r) q.1 (omega (arith, t.long)) (sym t.rest) counts is ∙ (long_front long value r l ∙ sym s))
  where
    itself : (wanted long : ℕ) → is_option wanted long wanted long ≡ true
    itself wanted long = grind (arith, nat_tests)
value_again order wanted long b x some fw fl (missing os r f e s) =
    let q = follows_again wanted long os (length b) order b r f (omega arith) in
    sym q.2 ∙ (ends_again q.0 order wanted long r some e q.1 ∙ sym s)

-- ---- the two options

one_byte : (v : List ℕ) → length v ≡ 1 → v ≡ get_or v 0 6 ∷ []
one_byte [] l = absurd (omega (arith, l))
one_byte (x ∷ []) l = refl
one_byte (x ∷ (y ∷ v)) l = absurd (omega (arith, l))

resolution_by_is : (order : Order) (b : List ℕ) (x : Option (List ℕ)) → AreBytes b → value_of order 9 1 b ≡ x → HasResolution order b (resolution_by x)
resolution_by_is order b None f e = microseconds (value_sound order 9 1 b None (omega arith) (omega arith) f e) refl
resolution_by_is order b (Some v) f e =
    given (subst (λ (y : List ℕ). HasValue order 9 1 b (Some y)) (one_byte v (found_is order 9 1 b v f e).size)
    (value_sound order 9 1 b (Some v) (omega arith) (omega arith) f e))

pub resolution_sound : (order : Order) (b : List ℕ) → AreBytes b → HasResolution order b (resolution_of order b)
resolution_sound order b f = resolution_by_is order b (value_of order 9 1 b) f refl

pub resolution_again : (order : Order) (b : List ℕ) (x : ℕ) → HasResolution order b x → resolution_of order b ≡ x
resolution_again order b x (given h) = ap resolution_by (value_again order 9 1 b (Some (x ∷ [])) (omega arith) (omega arith) (omega arith) h)
resolution_again order b x (microseconds h e) = ap resolution_by (value_again order 9 1 b None (omega arith) (omega arith) (omega arith) h) ∙ sym e

offset_by_is : (order : Order) (b : List ℕ) (x : Option (List ℕ)) → AreBytes b → value_of order 14 8 b ≡ x → HasOffset order b (offset_by order x)
offset_by_is order b None f e = unshifted (value_sound order 14 8 b None (omega arith) (omega arith) f e) refl
offset_by_is order b (Some v) f e =
    let is = found_is order 14 8 b v f e in
    shifted (signed64-fits order v is.bytes)
    (subst (λ (y : List ℕ). HasValue order 14 8 b (Some y)) (sym (i64-signed64 order v is.size is.bytes))
    (value_sound order 14 8 b (Some v) (omega arith) (omega arith) f e))

pub offset_sound : (order : Order) (b : List ℕ) → AreBytes b → HasOffset order b (offset_of order b)
offset_sound order b f = offset_by_is order b (value_of order 14 8 b) f refl

pub offset_again : (order : Order) (b : List ℕ) (x : ℤ) → HasOffset order b x → offset_of order b ≡ x
offset_again order b x (shifted fits h) =
    ap (offset_by order) (value_again order 14 8 b (Some (i64 order x)) (omega arith) (omega arith) (omega arith) h) ∙ signed64-i64 order x fits
offset_again order b x (unshifted h e) = ap (offset_by order) (value_again order 14 8 b None (omega arith) (omega arith) (omega arith) h) ∙ sym e
