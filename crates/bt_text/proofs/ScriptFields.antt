-- The fields of a line as they are read, and as they are said: the same.
use Rattle.std.proofs.Common.{◌≡◌, ℕ, ◌<◌, ◌^◌, ◌==◌, true, false, List, [], ◌∷◌, ◌++◌, length, Option, Some, None, Result, Ok, Err, refl, sym, ap, subst}
use Rattle.std.proofs.Common.{◌∙◌, arith, inl, inr}
use Rattle.std.specs.Prelude.{codes, option_map, option_and_then, nat_lt, if◌then◌else◌}
use Rattle.std.specs.Fmt.{decimal}
use Rattle.std.specs.Result.{result_ok}
use Rattle.std.specs.Str.{bytes_eq}
use Rattle.std.proofs.lemmas.Bool.{cases_Bool, ltb-true, lt-ltb, eqb-true, ne_eqb}
use Rattle.std.proofs.lemmas.List.{append-nil}
use Rattle.std.proofs.lemmas.Slice.Eq.{bytes_eq-Decides}
use Rattle.hex.specs.Hex.{decode_of}
use Rattle.hex.proofs.HexLemmas.{decode_of-ok}
use Rattle.bt_wire.specs.declared.ids.Shape.{Shape}
use Rattle.bt_wire.specs.declared.ids.Shape.TheVariants.{Nothing, Index, Part, Block, Port, Field, Extended}
use Rattle.bt_wire.specs.Messages.{Fields, none, index, part, block, port, field, extended, payload, spell_fields, AreInRange}
use Rattle.bt_wire.specs.Numbers.{be16, be32}
use Rattle.bt_text.specs.Lines.{spaced}
use Rattle.bt_text.specs.Script.{SaysBytes, SaysSpaced, SaysFields, shape_of}
use Rattle.bt_text.specs.ScriptReading.{word_of, after_word, number_in_word, bytes_in_word, number_following, after_one, one_more_after, two_after}
use Rattle.bt_text.specs.ScriptReading.{three_after, closed, bytes_after, with_bytes, port_in, extended_in, fields_in}
use Rattle.bt_text.proofs.ScriptWords.{Stops, word-parts, word_of-append, after_word-append, decimal_has_no_space, number_in_word-decimal, number_in_word-Some}

-- ---- what an answer comes from

pub record Mapped {A B : Type 0} (f : A → B) (o : Option A) (y : B) : Type 0 where
  pub from : A
  pub was : o ≡ Some from
  pub gives : f from ≡ y

pub option_map-Some : {A B : Type 0} (f : A → B) (o : Option A) (y : B) → option_map f o ≡ Some y → Mapped f o y
option_map-Some f None y h = absurd cc
option_map-Some f (Some x) y h = record { from = x; was = refl; gives = cc h }

pub record Chained {A B : Type 0} (f : A → Option B) (o : Option A) (y : B) : Type 0 where
  pub from : A
  pub was : o ≡ Some from
  pub gives : f from ≡ Some y

pub option_and_then-Some : {A B : Type 0} (f : A → Option B) (o : Option A) (y : B) → option_and_then f o ≡ Some y → Chained f o y
option_and_then-Some f None y h = absurd cc
option_and_then-Some f (Some x) y h = record { from = x; was = refl; gives = h }

pub record IsClosed {A : Type 0} (x : A) (t : List ℕ) (y : A) : Type 0 where
  pub empty : t ≡ []
  pub same : x ≡ y

pub closed-Some : {A : Type 0} (x : A) (t : List ℕ) (y : A) → closed x t ≡ Some y → IsClosed x t y
closed-Some x [] y h = record { empty = refl; same = cc h }
closed-Some x (c ∷ cs) y h = absurd cc

pub is_space : (c : ℕ) → (c == 32) ≡ true → c ≡ 32
is_space c e = eqb-true c 32 e

-- ---- a space and a number

pub record HasNumber (text : List ℕ) (n : ℕ) (rest : List ℕ) : Type 0 where
  pub text_is : text ≡ spaced n ++ rest
  pub small : n < 2 ^ 32

number_at : (c : ℕ) (cs : List ℕ) (p : ℕ × List ℕ) → (c == 32) ≡ true → option_map (λ n. (n, after_word cs)) (number_in_word (word_of cs)) ≡ Some p
    → HasNumber (c ∷ cs) p.0 p.1
number_at c cs p e h =
    let q = option_map-Some (λ (n : ℕ). (n, after_word cs)) (number_in_word (word_of cs)) p h in
    let d = number_in_word-Some (word_of cs) q.from q.was in
    let text : c ∷ cs ≡ spaced q.from ++ after_word cs =
    ap (λ (x : List ℕ). c ∷ x) (sym (word-parts cs)) ∙ ap (λ (x : List ℕ). c ∷ (x ++ after_word cs)) d.digits
    ∙ ap (λ (k : ℕ). k ∷ (decimal q.from ++ after_word cs)) (is_space c e) in
    subst (λ (p : ℕ × List ℕ). HasNumber (c ∷ cs) p.0 p.1) q.gives (record { text_is = text; small = d.small })

pub number_following-Some : (text : List ℕ) (p : ℕ × List ℕ) → number_following text ≡ Some p → HasNumber text p.0 p.1
number_following-Some [] p h = absurd cc
number_following-Some (c ∷ cs) p h =
    elim (cases_Bool (c == 32)) [
      | inl e ↦ number_at c cs p e (rw e at h)
      | inr e ↦ absurd (let k = rw e at h in cc k)
    ]

abbrev pub pair : {A : Type 0} → A → List ℕ → A × List ℕ
pair x t = (x, t)

pub number_following-spaced : (n : ℕ) (t : List ℕ) → n < 2 ^ 32 → Stops t → number_following (spaced n ++ t) ≡ Some (pair n t)
number_following-spaced n t lt stops =
    let free = decimal_has_no_space n (omega arith) in
    rw (word_of-append (decimal n) t free stops, after_word-append (decimal n) t free stops, number_in_word-decimal n lt) refl

-- ---- further numbers as bytes

pub record HasOneMore (p q : List ℕ × List ℕ) : Type 0 where
  pub number : ℕ
  pub text : HasNumber p.1 number q.1
  pub bytes : q.0 ≡ p.0 ++ be32 number

pub one_more_after-Some : (p q : List ℕ × List ℕ) → one_more_after p ≡ Some q → HasOneMore p q
one_more_after-Some p q h =
    let m = option_map-Some (after_one p.0) (number_following p.1) q h in
    let t = number_following-Some p.1 m.from m.was in
    subst (λ (q : List ℕ × List ℕ). HasOneMore p q) m.gives (record { number = m.from.0; text = t; bytes = refl })

pub one_more_after-spaced : (front : List ℕ) (n : ℕ) (t : List ℕ) → n < 2 ^ 32 → Stops t → one_more_after (pair front (spaced n ++ t))
    ≡ Some (pair (front ++ be32 n) t)
one_more_after-spaced front n t lt stops = ap (option_map (after_one front)) (number_following-spaced n t lt stops)

-- ---- a space and bytes

dash_or : (w bytes : List ℕ) → w ≡ codes "-" → Some [] ≡ Some bytes → SaysBytes w bytes
dash_or w [] e h = e
dash_or w (b ∷ bs) e h = absurd cc

pub ok_of : {E : Type 0} (r : Result (List ℕ) E) (bytes : List ℕ) → result_ok r ≡ Some bytes → r ≡ Ok bytes
ok_of (Ok x) bytes h = let e : x ≡ bytes = cc h in ap Ok e
ok_of (Err e) bytes h = absurd cc

digits_say : (w bytes : List ℕ) → 0 < length w → decode_of w ≡ Ok bytes → SaysBytes w bytes
digits_say w [] some h = absurd (omega (arith, (decode_of-ok w [] h).2))
digits_say w (b ∷ bs) some h = h

full_word : (w bytes : List ℕ) → (if length w == 0 then None else result_ok (decode_of w)) ≡ Some bytes → SaysBytes w bytes
full_word [] bytes h = absurd cc
full_word (c ∷ cs) bytes h =
    let some : 0 < length (c ∷ cs) = omega arith in
    let no : (length (c ∷ cs) == 0) ≡ false = ne_eqb (length (c ∷ cs)) 0 (λ e. omega arith) in
    digits_say (c ∷ cs) bytes some (ok_of (decode_of (c ∷ cs)) bytes (rw no at h))

pub bytes_in_word-Some : (w bytes : List ℕ) → bytes_in_word w ≡ Some bytes → SaysBytes w bytes
unfolding bytes_in_word
bytes_in_word-Some w bytes h =
    elim (cases_Bool (bytes_eq w (codes "-"))) [
      | inl e ↦ dash_or w bytes ((bytes_eq-Decides w (codes "-")).0 e) (rw e at h)
      | inr e ↦ full_word w bytes (rw e at h)
    ]

not_dash : (w bytes : List ℕ) → decode_of w ≡ Ok bytes → bytes_eq w (codes "-") ≡ true → ⊥
not_dash w bytes h e =
    let is = (bytes_eq-Decides w (codes "-")).0 e in
    omega (arith, ap length is, (decode_of-ok w bytes h).2)

pub bytes_in_word-says : (w bytes : List ℕ) → SaysBytes w bytes → bytes_in_word w ≡ Some bytes
unfolding bytes_in_word
bytes_in_word-says w [] h = rw h refl
bytes_in_word-says [] (b ∷ bs) h = absurd (omega (arith, (decode_of-ok [] (b ∷ bs) h).2))
bytes_in_word-says (c ∷ cs) (b ∷ bs) h =
    elim (cases_Bool (bytes_eq (c ∷ cs) (codes "-"))) [
      | inl e ↦ absurd (not_dash (c ∷ cs) (b ∷ bs) h e)
      | inr e ↦
          let no : (length (c ∷ cs) == 0) ≡ false = ne_eqb (length (c ∷ cs)) 0 (λ e. omega arith) in
          rw (e, no, h) refl
    ]

pub bytes_after-Some : (text bytes : List ℕ) → bytes_after text ≡ Some bytes → SaysSpaced text bytes
bytes_after-Some [] bytes h = absurd cc
bytes_after-Some (c ∷ cs) bytes h =
    elim (cases_Bool (c == 32)) [
      | inl e ↦ (cs, ap (λ (k : ℕ). k ∷ cs) (is_space c e), bytes_in_word-Some cs bytes (rw e at h))
      | inr e ↦ absurd (let k = rw e at h in cc k)
    ]

pub bytes_after-says : (text bytes : List ℕ) → SaysSpaced text bytes → bytes_after text ≡ Some bytes
bytes_after-says text bytes h = rw h.1 (bytes_in_word-says h.0 bytes h.2)

pub Stops-says : (text bytes : List ℕ) → SaysSpaced text bytes → Stops text
Stops-says text bytes h = rw h.1 refl

pub record HasBytes (numbers text all : List ℕ) : Type 0 where
  pub bytes : List ℕ
  pub says : SaysSpaced text bytes
  pub same : numbers ++ bytes ≡ all

pub with_bytes-Some : (numbers text all : List ℕ) → with_bytes numbers text ≡ Some all → HasBytes numbers text all
with_bytes-Some numbers text all h =
    let m = option_map-Some (λ (bytes : List ℕ). numbers ++ bytes) (bytes_after text) all h in
    record { bytes = m.from; says = bytes_after-Some text m.from m.was; same = m.gives }

pub with_bytes-says : (numbers text bytes : List ℕ) → SaysSpaced text bytes → with_bytes numbers text ≡ Some (numbers ++ bytes)
with_bytes-says numbers text bytes h = ap (option_map (λ (b : List ℕ). numbers ++ b)) (bytes_after-says text bytes h)

-- ---- the fields of a shape

-- what the text says by this shape, in these bytes
pub record HasFields (s : Shape) (text bytes : List ℕ) (f : Fields) : Type 0 where
  pub shape : shape_of f ≡ Some s
  pub in_range : AreInRange f
  pub says : SaysFields text f
  pub spelled : bytes ≡ spell_fields f

abbrev pub SomeFields : Shape → List ℕ → List ℕ → Type 0
SomeFields s text bytes = (f : Fields) × HasFields s text bytes f

-- the text ends after a number
last : (text rest : List ℕ) (n : ℕ) → HasNumber text n rest → rest ≡ [] → text ≡ spaced n
last text rest n h e = h.text_is ∙ ap (λ (x : List ℕ). spaced n ++ x) e ∙ append-nil (spaced n)

index_read : (text bytes : List ℕ) → fields_in Index text ≡ Some bytes → SomeFields Index text bytes
index_read text bytes h =
    let c = option_and_then-Some (λ (p : ℕ × List ℕ). closed (be32 p.0) p.1) (number_following text) bytes h in
    let n = number_following-Some text c.from c.was in
    let d = closed-Some (be32 c.from.0) c.from.1 bytes c.gives in
    (index c.from.0, record { shape = refl; in_range = n.small; says = last text c.from.1 c.from.0 n d.empty; spelled = sym d.same })

pub record HasTwo (text : List ℕ) (q : List ℕ × List ℕ) : Type 0 where
  pub first : ℕ
  pub second : ℕ
  pub first_small : first < 2 ^ 32
  pub second_small : second < 2 ^ 32
  pub text_is : text ≡ spaced first ++ (spaced second ++ q.1)
  pub bytes : q.0 ≡ be32 first ++ be32 second

pub two_after-Some : (text : List ℕ) (q : List ℕ × List ℕ) → two_after text ≡ Some q → HasTwo text q
two_after-Some text q h =
    let c = option_and_then-Some one_more_after (one_more_after ([], text)) q h in
    let a = one_more_after-Some ([], text) c.from c.was in
    let b = one_more_after-Some c.from q c.gives in
    record {
      first = a.number;
      second = b.number;
      first_small = a.text.small;
      second_small = b.text.small;
      text_is = a.text.text_is ∙ ap (λ (x : List ℕ). spaced a.number ++ x) b.text.text_is;
      bytes = b.bytes ∙ ap (λ (x : List ℕ). x ++ be32 b.number) a.bytes;
    }

part_read : (text bytes : List ℕ) → fields_in Part text ≡ Some bytes → SomeFields Part text bytes
part_read text bytes h =
    let c = option_and_then-Some (λ (p : List ℕ × List ℕ). closed p.0 p.1) (three_after text) bytes h in
    let d = closed-Some c.from.0 c.from.1 bytes c.gives in
    let e = option_and_then-Some one_more_after (two_after text) c.from c.was in
    let two = two_after-Some text e.from e.was in
    let m = one_more_after-Some e.from c.from e.gives in (
      part two.first two.second m.number,
      record {
        shape = refl;
        in_range = (two.first_small, two.second_small, m.text.small);
        says = two.text_is ∙ ap (λ (x : List ℕ). spaced two.first ++ (spaced two.second ++ x)) (last e.from.1 c.from.1 m.number m.text d.empty);
        spelled = sym d.same ∙ m.bytes ∙ ap (λ (x : List ℕ). x ++ be32 m.number) two.bytes;
      },
    )

block_read : (text bytes : List ℕ) → fields_in Block text ≡ Some bytes → SomeFields Block text bytes
block_read text bytes h =
    let c = option_and_then-Some (λ (p : List ℕ × List ℕ). with_bytes p.0 p.1) (two_after text) bytes h in
    let two = two_after-Some text c.from c.was in
    let w = with_bytes-Some c.from.0 c.from.1 bytes c.gives in (
      block two.first two.second w.bytes,
      record {
        shape = refl;
        in_range = (two.first_small, two.second_small);
        says = (c.from.1, two.text_is, w.says);
        spelled = sym w.same ∙ ap (λ (x : List ℕ). x ++ w.bytes) two.bytes;
      },
    )

port_at : (p : ℕ × List ℕ) (bytes : List ℕ) → port_in p ≡ Some bytes → (p.0 < 2 ^ 16) × IsClosed (be16 p.0) p.1 bytes
port_at p bytes h =
    elim (cases_Bool (nat_lt p.0 65536)) [
      | inl e ↦ (ltb-true p.0 65536 e, closed-Some (be16 p.0) p.1 bytes (rw e at h))
      | inr e ↦ absurd (let k = rw e at h in cc k)
    ]

port_read : (text bytes : List ℕ) → fields_in Port text ≡ Some bytes → SomeFields Port text bytes
port_read text bytes h =
    let c = option_and_then-Some port_in (number_following text) bytes h in
    let n = number_following-Some text c.from c.was in
    let d = port_at c.from bytes c.gives in
    (port c.from.0, record { shape = refl; in_range = d.0; says = last text c.from.1 c.from.0 n d.1.empty; spelled = sym d.1.same })

field_read : (text bytes : List ℕ) → fields_in Field text ≡ Some bytes → SomeFields Field text bytes
field_read text bytes h =
    let w = with_bytes-Some [] text bytes h in
    (field w.bytes, record { shape = refl; in_range = tt; says = w.says; spelled = sym w.same })

extended_at : (p : ℕ × List ℕ) (bytes : List ℕ) → extended_in p ≡ Some bytes → (p.0 < 2 ^ 8) × HasBytes (p.0 ∷ []) p.1 bytes
extended_at p bytes h =
    elim (cases_Bool (nat_lt p.0 256)) [
      | inl e ↦ (ltb-true p.0 256 e, with_bytes-Some (p.0 ∷ []) p.1 bytes (rw e at h))
      | inr e ↦ absurd (let k = rw e at h in cc k)
    ]

extended_read : (text bytes : List ℕ) → fields_in Extended text ≡ Some bytes → SomeFields Extended text bytes
extended_read text bytes h =
    let c = option_and_then-Some extended_in (number_following text) bytes h in
    let n = number_following-Some text c.from c.was in
    let d = extended_at c.from bytes c.gives in
    (extended c.from.0 d.1.bytes, record { shape = refl; in_range = d.0; says = (c.from.1, n.text_is, d.1.says); spelled = sym d.1.same })

-- what is read is said
pub fields_in-Some : (s : Shape) (text bytes : List ℕ) → fields_in s text ≡ Some bytes → SomeFields s text bytes
fields_in-Some Nothing text bytes h =
    let d = closed-Some [] text bytes h in
    (none, record { shape = refl; in_range = tt; says = d.empty; spelled = sym d.same })
fields_in-Some Index text bytes h = index_read text bytes h
fields_in-Some Part text bytes h = part_read text bytes h
fields_in-Some Block text bytes h = block_read text bytes h
fields_in-Some Port text bytes h = port_read text bytes h
fields_in-Some Field text bytes h = field_read text bytes h
fields_in-Some Extended text bytes h = extended_read text bytes h

-- ---- what is said is read

closed_one : (n : ℕ) (text : List ℕ) → n < 2 ^ 32 → text ≡ spaced n → number_following text ≡ Some (pair n [])
closed_one n text lt e = rw e (ap number_following (sym (append-nil (spaced n))) ∙ number_following-spaced n [] lt tt)

two_says : (i b : ℕ) (rest : List ℕ) → i < 2 ^ 32 → b < 2 ^ 32 → Stops rest → two_after (spaced i ++ (spaced b ++ rest)) ≡ Some (pair (be32 i ++ be32 b) rest)
two_says i b rest li lb stops =
    rw (one_more_after-spaced [] i (spaced b ++ rest) li refl) (one_more_after-spaced (be32 i) b rest lb stops)

three_says : (i b l : ℕ) → i < 2 ^ 32 → b < 2 ^ 32 → l < 2 ^ 32 → three_after (spaced i ++ (spaced b ++ spaced l))
    ≡ Some (pair ((be32 i ++ be32 b) ++ be32 l) [])
three_says i b l li lb ll =
    rw (two_says i b (spaced l) li lb refl) (ap (λ (x : List ℕ). one_more_after (pair (be32 i ++ be32 b) x)) (sym (append-nil (spaced l)))
    ∙ one_more_after-spaced (be32 i ++ be32 b) l [] ll tt)

block_says : (i b : ℕ) (text rest bytes : List ℕ) → i < 2 ^ 32 → b < 2 ^ 32 → text ≡ spaced i ++ (spaced b ++ rest) → SaysSpaced rest bytes
    → fields_in Block text ≡ Some (spell_fields (block i b bytes))
block_says i b text rest bytes li lb e says =
    rw (e, two_says i b rest li lb (Stops-says rest bytes says)) (with_bytes-says (be32 i ++ be32 b) rest bytes says)

port_says : (p : ℕ) (text : List ℕ) → p < 2 ^ 16 → text ≡ spaced p → fields_in Port text ≡ Some (be16 p)
port_says p text lt e =
    rw (closed_one p text (omega arith) e, lt-ltb p 65536 lt) refl

extended_says : (n : ℕ) (text rest bytes : List ℕ) → n < 2 ^ 8 → text ≡ spaced n ++ rest → SaysSpaced rest bytes → fields_in Extended text ≡ Some (n ∷ bytes)
extended_says n text rest bytes lt e says =
    rw (e, number_following-spaced n rest (omega arith) (Stops-says rest bytes says), lt-ltb n 256 lt) (with_bytes-says (n ∷ []) rest bytes says)

shape_is : (s t : Shape) → Some s ≡ Some t → s ≡ t
shape_is s t e = cc e

said_as : (f : Fields) (s : Shape) (text : List ℕ) → shape_of f ≡ Some s → AreInRange f → SaysFields text f → fields_in s text ≡ Some (spell_fields f)
said_as none s text e range says = rw (sym (shape_is Nothing s e), says) refl
said_as (index i) s text e range says = rw (sym (shape_is Index s e), closed_one i text range says) refl
said_as (part i b l) s text e range says = rw (sym (shape_is Part s e), says, three_says i b l range.0 range.1 range.2) refl
said_as (block i b bytes) s text e range says = rw (sym (shape_is Block s e)) (block_says i b text says.0 bytes range.0 range.1 says.1 says.2)
said_as (port p) s text e range says = rw (sym (shape_is Port s e)) (port_says p text range says)
said_as (field bits) s text e range says = rw (sym (shape_is Field s e)) (with_bytes-says [] text bits says)
said_as (extended n bytes) s text e range says = rw (sym (shape_is Extended s e)) (extended_says n text says.0 bytes range says.1 says.2)
said_as (payload bytes) s text e range says = absurd cc

pub fields_in-says : (s : Shape) (text : List ℕ) (f : Fields) → shape_of f ≡ Some s → AreInRange f → SaysFields text f → fields_in s text
    ≡ Some (spell_fields f)
fields_in-says s text f e range says = said_as f s text e range says

-- what follows a name stops it
pub Stops-fields : (f : Fields) (text : List ℕ) → SaysFields text f → Stops text
Stops-fields none text says = rw says tt
Stops-fields (index i) text says = rw says refl
Stops-fields (part i b l) text says = rw says refl
Stops-fields (block i b bytes) text says = rw says.1 refl
Stops-fields (port p) text says = rw says refl
Stops-fields (field bits) text says = Stops-says text bits says
Stops-fields (extended n bytes) text says = rw says.1 refl
Stops-fields (payload bytes) text says = Stops-says text bytes says
