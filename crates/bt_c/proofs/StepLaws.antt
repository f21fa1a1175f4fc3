-- Steps of a reader, by their answers.
use Rattle.std.proofs.Common.{◌≡◌, ◌⊎◌, ◌&&◌, ◌==◌, inl, inr, ℕ, List, length, true, false, refl, sym, ap, subst, arith, ◌≤◌, ◌<◌, ◌^◌, ◌+◌, take, Some, ◌∙◌}
use Rattle.std.specs.Prelude.{if◌then◌else◌}
use Rattle.std.proofs.lemmas.List.{length-take-le}
use Rattle.bt_wire.specs.declared.context.Context.{Context}
use Rattle.bt_wire.specs.declared.context.Order.{Order}
use Rattle.bt_wire.specs.declared.item.Item.TheVariants as items
use Rattle.bt_wire.specs.declared.fault.Refused.{Refused}
use Rattle.bt_wire.specs.Faults.{IsFault}
use Rattle.bt_wire.specs.Fronts.{BeginsBy, IsPartial}
use Rattle.bt_wire.specs.Messages.{fields_of, order_after}
use Rattle.bt_wire.proofs.FrontLaws.{IsWhole, front_read, front_fault}
use Rattle.bt_c.specs.Readers.{is_on, context_of, order_in, Shows, ShowsFault}
use Rattle.bt_c.specs.Steps.{Steps, Ends, GoesOver, HasFault, Lacks, IsInside, is_complete, start_of}
use Rattle.bt_c.specs.declared.reader.BtReader.{BtReader}
use Rattle.bt_c.specs.declared.item.BtItem.{BtItem}

-- where the awaited item starts
pub start_closed : (r : BtReader) → is_on r.opened ≡ false → start_of r ≡ 0
start_closed r closed = ap (λ k. if k then r.start else 0) closed

pub start_opened : (r : BtReader) → is_on r.opened ≡ true → start_of r ≡ r.start
start_opened r opened = ap (λ k. if k then r.start else 0) opened

pub refused_closed : (r : BtReader) (i : BtItem) (f : Refused) → is_on r.opened ≡ false → ShowsFault i 0 f → ShowsFault i (start_of r) f
refused_closed r i f closed shows = subst (λ s. ShowsFault i s f) (sym (start_closed r closed)) shows

pub refused_opened : (r : BtReader) (i : BtItem) (f : Refused) → is_on r.opened ≡ true → ShowsFault i r.start f → ShowsFault i (start_of r) f
refused_opened r i f opened shows = subst (λ s. ShowsFault i s f) (sym (start_opened r opened)) shows

-- the answer 0 says that bytes are lacking
pub lacking : (r : BtReader) (b : List ℕ) (s : BtReader) (i : BtItem) (n : ℕ) → Steps r b s i n → n ≡ 0 → Lacks r b × (s ≡ r)
lacking r b s i _ (Steps.more lacks same) e = (lacks, same)
lacking r b s i _ (Steps.item x gives) e = absurd (omega (arith, e))
lacking r b s i _ (Steps.refused f fault shows same) e = absurd (omega (arith, e))

-- each other one stands at the stream's end too
pub further : {r : BtReader} {b : List ℕ} {s : BtReader} {i : BtItem} {n : ℕ} → Steps r b s i n → (n ≡ 0 → ⊥) → Ends r b s i n
further (Steps.more lacks same) e = absurd (e refl)
further (Steps.item x gives) e = Ends.item x gives
further (Steps.refused f fault shows same) e = Ends.refused f fault shows same

-- at the stream's end, where bytes are lacking
pub stopped : {r : BtReader} {b : List ℕ} {s : BtReader} {i j : BtItem} {n k : ℕ} → Steps r b s i n → n ≡ 0 → (k ≡ 2) ⊎ (k ≡ 3)
    → (k ≡ 3 → (is_on s.opened && (length b == 0)) ≡ true) → (k ≡ 2 → ((is_on s.opened && (length b == 0)) ≡ false) × IsInside s (length b) j) → Ends r b s j k
stopped {r} {b} {s} {i} {j} {n} {k} steps none either end inside = go either where
  lacks : Lacks r b
  lacks = (lacking r b s i n steps none).0

  same : s ≡ r
  same = (lacking r b s i n steps none).1

  go : (k ≡ 2) ⊎ (k ≡ 3) → Ends r b s j k
  go (inl two) =
      let is = inside two in
      subst (λ n. Ends r b s j n) (sym two) (Ends.inside lacks (subst (λ z. is_complete z b ≡ false) same is.0)
      (subst (λ z. IsInside z (length b) j) same is.1) same)
  go (inr three) = subst (λ n. Ends r b s j n) (sym three) (Ends.end lacks (subst (λ z. is_complete z b ≡ true) same (end three)) same)

-- ---- a message

-- in the context and the order of the reader r
pub more_opened : (r : BtReader) (b : List ℕ) (i : BtItem) (c : Context) (o : Order) → is_on r.opened ≡ true → c ≡ context_of r → o ≡ order_in r.past
    → IsPartial c o r.start b → Steps r b r i 0
more_opened r b i c o opened k e p =
    Steps.more (Lacks.message opened (subst (λ z. IsPartial z (order_in r.past) r.start b) k (subst (λ z. IsPartial c z r.start b) e p))) refl

pub fault_opened : (r : BtReader) (b : List ℕ) (i : BtItem) (f : Refused) (c : Context) (o : Order) → is_on r.opened ≡ true → c ≡ context_of r → o
    ≡ order_in r.past → IsFault c o r.start b (Some f) → ShowsFault i r.start f → Steps r b r i 2
fault_opened r b i f c o opened k e p shows =
    Steps.refused f (HasFault.message opened (subst (λ z. IsFault z (order_in r.past) r.start b (Some f)) k
    (subst (λ z. IsFault c z r.start b (Some f)) e p))) (refused_opened r i f opened shows) refl

-- an item of the bytes w has their length
pub over_size : (c : Context) (o : Order) (r : BtReader) (w : List ℕ) (s : BtReader) (i : BtItem) (n : ℕ) → GoesOver c o r w s i n → n ≡ 1
    → length w ≡ i.size
over_size c o r w s i _ (GoesOver.item msg read size id start shows extended order same) e = sym size
over_size c o r w s i _ (GoesOver.refused f fault shows same) e = absurd (omega (arith, e))

-- the first n bytes are a message
pub over_opened : {r s : BtReader} {b : List ℕ} {i : BtItem} {n k : ℕ} {c : Context} {o : Order} → is_on r.opened ≡ true → c ≡ context_of r → o
    ≡ order_in r.past → r.start < 2 ^ 62 → n ≤ length b → IsWhole c o b n
    → GoesOver c o r (take n b) s i k → Steps r b s i k
over_opened {r} {b} {i} {n} {c} {o} opened k e lt le whole (GoesOver.refused f fault shows same) =
    subst (λ z. Steps r b z i 2) (sym same) (fault_opened r b i f c o opened k e (front_fault c o r.start b n f lt whole fault) shows)
over_opened {r} {s} {b} {i} {n} {c} {o} opened k e lt le whole (GoesOver.item msg read size id start shows extended order same) =
    let long : length (take n b) ≡ n = length-take-le n b le in
    let begins = front_read c o r.start b n msg lt le read in
    let P : Order → Type 0 = λ z. BeginsBy c z r.start b msg n in
    let Q : Context → Type 0 = λ z. BeginsBy z (order_in r.past) r.start b msg n in
    let R : ℕ → Type 0 = λ z. BeginsBy (context_of r) (order_in r.past) r.start b msg z in
    let fields : Shows i (fields_of (context_of r) msg) = subst (λ z. Shows i (fields_of z msg)) k shows in
    Steps.item (items.Message msg) (
      opened,
      record {
        begins = subst R (sym (size ∙ long)) (subst Q k (subst P e begins));
        id = id;
        start = start;
        fields = fields;
        extended = extended;
        order = order ∙ ap (λ z. order_after z msg) e;
        same = same ∙ ap (λ z. record r { past = s.past; start = r.start + z }) (sym size);
      },
    )
