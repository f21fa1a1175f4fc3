-- What calls in a row read is what the stream's verdict says.
use Rattle.std.proofs.Common.{◌≡◌, ◌≢◌, ◌==◌, Bool, min, ◌&&◌, ℕ, ◌+◌, ◌-◌, ◌<◌, ◌≤◌, ◌^◌, true, false, not, List, [], ◌∷◌, ◌++◌, length, drop, Option}
use Rattle.std.proofs.Common.{Some, None, refl, sym, ap, subst, ◌∙◌, arith}
use Rattle.std.proofs.lemmas.Grind.{common_steps}
use Rattle.std.specs.Prelude.{if◌then◌else◌}
use Rattle.std.proofs.lemmas.List.{length-append}
use Rattle.bt_wire.specs.declared.context.Context.{Context}
use Rattle.bt_wire.specs.declared.context.Order.{Order}
use Rattle.bt_wire.specs.declared.context.Order.TheVariants.{Fresh}
use Rattle.bt_wire.specs.declared.fault.Refused.{Refused}
use Rattle.bt_wire.specs.declared.handshake.Handshake.{Handshake}
use Rattle.bt_wire.specs.declared.item.Item.{Item}
use Rattle.bt_wire.specs.declared.item.Item.TheVariants as items
use Rattle.bt_wire.specs.Messages.{Message}
use Rattle.bt_wire.specs.Handshakes.{hand, negotiated}
use Rattle.bt_wire.specs.Messages.{spell, order_after}
use Rattle.bt_wire.specs.declared.item.Refusal.{Refusal}
use Rattle.bt_wire.specs.Streams.{Outcome, IsOutcome, IsVerdict, refusal_at, with_item, awaiting, refusal_at_end, end_inside}
use Rattle.bt_wire.specs.Streams.{is_complete as is_complete_verdict}
use Rattle.bt_wire.proofs.HandLaws.{hand-length}
use Rattle.bt_wire.proofs.StreamLaws.{at_rest, message_then}
use Rattle.bt_wire.proofs.VerdictLaws.{verdict_only}
use Rattle.bt_wire.proofs.WalkLaws.{refused_here, partial_here, message_size, refused_opening, partial_opening, opening_more}
use Rattle.bt_c.specs.Readers.{own_of, context_of, order_in, is_on}
use Rattle.bt_c.specs.Steps.{Ends, Gives, Opens, Goes, Lacks, HasFault, start_of, is_complete}
use Rattle.bt_c.specs.Runs.{Reads, Stops, ItemsAreTheVerdicts, ShowsEnd, ShowsVerdict}
use Rattle.bt_c.specs.declared.check.BtVerdict.{BtVerdict}
use Rattle.bt_c.specs.declared.receiver.BtOwn.{BtOwn}
use Rattle.bt_c.specs.declared.reader.BtReader.{BtReader}
use Rattle.bt_c.specs.declared.item.BtItem.{BtItem}
use Rattle.bt_c.proofs.StepLaws.{start_closed, start_opened}

-- v says what is read from number on: these items, and then where the reader s stops before the bytes c
pub record IsRun (s : BtReader) (c : List ℕ) (f : Option Refused) (xs : List (ℕ × Item)) (number : ℕ) (v : Outcome) : Type 0 where
  pub items : v.items ≡ xs
  pub refusal : v.refusal ≡ refusal_at (number + length xs) (start_of s) f
  pub number_after : v.number ≡ number + length xs
  pub start : v.start ≡ start_of s
  pub tail : v.tail ≡ c

-- ---- no item follows

opened_here : (r : BtReader) (b : List ℕ) (f : Option Refused) (number : ℕ) → r.own.limit < 2 ^ 32 → is_on r.opened ≡ true → Stops r b f
    → IsOutcome (context_of r) (order_in r.past) r.start number b (at_rest number (order_in r.past) r.start b f)
opened_here r b None number lt opened (Lacks.handshake closed lacks) = absurd (let e = sym opened ∙ closed in cc)
opened_here r b None number lt opened (Lacks.message o lacks) = partial_here (context_of r) (order_in r.past) r.start number b b lt refl lacks
opened_here r b (Some f) number lt opened (HasFault.handshake closed fault) = absurd (let e = sym opened ∙ closed in cc)
opened_here r b (Some f) number lt opened (HasFault.message o fault) = refused_here (context_of r) (order_in r.past) r.start number b b f lt refl fault

closed_here : (r : BtReader) (b : List ℕ) (f : Option Refused) → is_on r.opened ≡ false → Stops r b f → IsVerdict (own_of r.own) b (awaiting f b)
closed_here r b None closed (Lacks.handshake c lacks) = partial_opening (own_of r.own) b lacks.0 lacks.1
closed_here r b None closed (Lacks.message opened lacks) = absurd (let e = sym opened ∙ closed in cc)
closed_here r b (Some f) closed (HasFault.handshake c fault) = refused_opening (own_of r.own) b f fault
closed_here r b (Some f) closed (HasFault.message opened fault) = absurd (let e = sym opened ∙ closed in cc)

run_here : (r : BtReader) (b : List ℕ) (f : Option Refused) (number s0 : ℕ) (o : Order) → s0 ≡ start_of r → IsRun r b f [] number (at_rest number o s0 b f)
run_here r b f number s0 o e = record {
  items = refl;
  refusal = ap (λ s. refusal_at number s f) e ∙ ap (λ n. refusal_at n (start_of r) f) (omega arith);
  number_after = omega arith;
  start = e;
  tail = refl;
}

-- ---- an item, and what follows it

run_more : (s : BtReader) (c : List ℕ) (f : Option Refused) (xs : List (ℕ × Item)) (number a : ℕ) (at : ℕ) (x : Item) (v : Outcome) → a
    ≡ at → IsRun s c f xs (number + 1) v → IsRun s c f ((at, x) ∷ xs) number (with_item a x v)
run_more s c f xs number a at x v e run = record {
  items = ap (λ (ys : List (ℕ × Item)). (a, x) ∷ ys) run.items ∙ ap (λ (z : ℕ). (z, x) ∷ xs) e;
  refusal = run.refusal ∙ ap (λ n. refusal_at n (start_of s) f) (omega arith);
  number_after = omega (arith, run.number_after);
  start = run.start;
  tail = run.tail;
}

after_message : (r t : BtReader) (b : List ℕ) (i : BtItem) (msg : Message) (number : ℕ) (v : Outcome) → r.own.limit < 2 ^ 32 → Goes r b t i msg
    → IsOutcome (context_of t) (order_in t.past) t.start (number + 1) (drop i.size b) v → IsOutcome (context_of r) (order_in r.past) r.start number b
    (with_item r.start (items.Message msg) v)
after_message r t b i msg number v lt g h =
    let c = context_of r in
    let P : Context → Type 0 = λ k. IsOutcome k (order_in t.past) t.start (number + 1) (drop i.size b) v in
    let Q : Order → Type 0 = λ o. IsOutcome c o t.start (number + 1) (drop i.size b) v in
    let R : ℕ → Type 0 = λ n. IsOutcome c (order_after (order_in r.past) msg) n (number + 1) (drop i.size b) v in
    let start : t.start ≡ r.start + length (spell c msg) = ap (λ z. z.start) g.same ∙ ap (λ n. r.start + n) g.begins.size in
    message_then lt g.begins.said g.begins.parts
    (subst R start (subst Q g.order (subst P (ap context_of g.same) h)))

after_handshake : (r t : BtReader) (b : List ℕ) (i : BtItem) (h : Handshake) (v : Outcome) → Opens r b t i h
    → IsOutcome (context_of t) (order_in t.past) t.start 1 (drop i.size b) v → IsVerdict (own_of r.own) b (with_item 0 (items.Handshake h) v)
after_handshake r t b i h v g next =
    let P : Context → Type 0 = λ k. IsOutcome k (order_in t.past) t.start 1 (drop i.size b) v in
    let k = negotiated (own_of r.own) h.reserved in
    let Q : Order → Type 0 = λ o. IsOutcome k o t.start 1 (drop i.size b) v in
    let R : ℕ → Type 0 = λ n. IsOutcome k Fresh n 1 (drop i.size b) v in
    let S : ℕ → Type 0 = λ n. IsOutcome k Fresh 68 1 (drop n b) v in
    opening_more (own_of r.own) b h v g.faultless g.begins (subst S g.size (subst R g.after (subst Q g.order (subst P g.context next))))

opened_after : (r t : BtReader) (b : List ℕ) (i : BtItem) (msg : Message) → is_on r.opened ≡ true → Goes r b t i msg → is_on t.opened ≡ true
opened_after r t b i msg opened g = ap (λ z. is_on z.opened) g.same ∙ opened

limit_after : (r t : BtReader) (b : List ℕ) (i : BtItem) (msg : Message) → r.own.limit < 2 ^ 32 → Goes r b t i msg → t.own.limit < 2 ^ 32
limit_after r t b i msg lt g = omega (arith, lt, ap (λ z. z.own.limit) g.same)

-- ---- runs

pub opened_run : (xs : List (ℕ × Item)) (r s : BtReader) (b c : List ℕ) (f : Option Refused) (number : ℕ) → r.own.limit < 2 ^ 32 → is_on r.opened ≡ true
    → Reads r b xs s c → Stops s c f
    → (v : Outcome) × IsOutcome (context_of r) (order_in r.past) r.start number b v × IsRun s c f xs number v
opened_run [] r s b c f number lt opened reads stops =
    let P : BtReader → Type 0 = λ z. Stops z c f in
    let Q : List ℕ → Type 0 = λ z. Stops r z f in
    let R : BtReader → Type 0 = λ z. IsRun z c f [] number (at_rest number (order_in r.past) r.start b f) in
    let S : List ℕ → Type 0 = λ z. IsRun r z f [] number (at_rest number (order_in r.past) r.start b f) in (
      at_rest number (order_in r.past) r.start b f,
      opened_here r b f number lt opened (subst Q reads.1 (subst P reads.0 stops)),
      subst R (sym reads.0) (subst S (sym reads.1) (run_here r b f number r.start (order_in r.past) (sym (start_opened r opened)))),
    )
opened_run ((at, items.Handshake h) ∷ xs) r s b c f number lt opened (t, i, start, gives, reads) stops = absurd (let e = sym opened ∙ gives.0 in cc)
opened_run ((at, items.Message msg) ∷ xs) r s b c f number lt opened (t, i, start, gives, reads) stops =
    let rest = opened_run xs t s (drop i.size b) c f (number + 1) (limit_after r t b i msg lt gives.1) (opened_after r t b i msg opened gives.1) reads
    stops in (
      with_item r.start (items.Message msg) rest.0,
      after_message r t b i msg number rest.0 lt gives.1 rest.1,
      run_more s c f xs number r.start at (items.Message msg) rest.0 (sym gives.1.start ∙ start) rest.2,
    )

pub run : (xs : List (ℕ × Item)) (r s : BtReader) (b c : List ℕ) (f : Option Refused) → r.own.limit < 2 ^ 32 → is_on r.opened ≡ false → Reads r b xs s c
    → Stops s c f
    → (v : Outcome) × IsVerdict (own_of r.own) b v × IsRun s c f xs 0 v
run [] r s b c f lt closed reads stops =
    let P : BtReader → Type 0 = λ z. Stops z c f in
    let Q : List ℕ → Type 0 = λ z. Stops r z f in
    let R : BtReader → Type 0 = λ z. IsRun z c f [] 0 (awaiting f b) in
    let S : List ℕ → Type 0 = λ z. IsRun r z f [] 0 (awaiting f b) in (
      awaiting f b,
      closed_here r b f closed (subst Q reads.1 (subst P reads.0 stops)),
      subst R (sym reads.0) (subst S (sym reads.1) (run_here r b f 0 0 Fresh (sym (start_closed r closed)))),
    )
run ((at, items.Message msg) ∷ xs) r s b c f lt closed (t, i, start, gives, reads) stops = absurd (let e = sym gives.0 ∙ closed in cc)
run ((at, items.Handshake h) ∷ xs) r s b c f lt closed (t, i, start, gives, reads) stops =
    let g = gives.1 in
    let rest = opened_run xs t s (drop i.size b) c f 1 (omega (arith, lt, ap (λ o. o.limit) g.own)) g.opened reads stops in (
      with_item 0 (items.Handshake h) rest.0,
      after_handshake r t b i h rest.0 g rest.1,
      run_more s c f xs 0 0 at (items.Handshake h) rest.0 (sym g.start ∙ start) rest.2,
    )

pub items_are_the_verdicts : ItemsAreTheVerdicts
items_are_the_verdicts r s b c xs f v lt closed reads stops verdict =
    let found = run xs r s b c f lt closed reads stops in
    let same = verdict_only (own_of r.own) b v found.0 lt verdict found.1 in (
      ap (λ (o : Outcome). o.items) same ∙ found.2.items,
      ap (λ (o : Outcome). o.refusal) same ∙ found.2.refusal ∙ ap (λ n. refusal_at n (start_of s) f) (omega arith),
      ap (λ (o : Outcome). o.tail) same ∙ found.2.tail,
    )

-- ---- a check

abbrev pub new_reader : BtOwn → BtReader
new_reader own = record { own = own; opened = 0; fast = 0; ext = 0; past = 0; start = 0 }

-- an item more
pub reads_more : (xs : List (ℕ × Item)) (r s t : BtReader) (b c : List ℕ) (i : BtItem) (x : Item) → Reads r b xs s c → Gives s c t i x
    → Reads r b (xs ++ (i.start, x) ∷ []) t (drop i.size c)
reads_more [] r s t b c i x reads gives =
    let P : BtReader → Type 0 = λ z. Gives z c t i x in
    let Q : List ℕ → Type 0 = λ z. Gives r z t i x in
    (t, i, refl, subst Q reads.1 (subst P reads.0 gives), (refl, ap (λ z. drop i.size z) reads.1))
reads_more (y ∷ ys) r s t b c i x (u, j, start, first, reads) gives = (u, j, start, first, reads_more ys u s t (drop j.size b) c i x reads gives)

pub given : (r : BtReader) (b : List ℕ) (s : BtReader) (i : BtItem) (n : ℕ) → Ends r b s i n → n ≡ 1 → (x : Item) × Gives r b s i x
given r b s i _ (Ends.item x gives) e = (x, gives)
given r b s i _ (Ends.refused f fault shows same) e = absurd (omega (arith, e))
given r b s i _ (Ends.inside lacks unfinished shows same) e = absurd (omega (arith, e))
given r b s i _ (Ends.end lacks complete same) e = absurd (omega (arith, e))

pub given_size : (r : BtReader) (b : List ℕ) (s : BtReader) (i : BtItem) (x : Item) → Gives r b s i x → (4 ≤ i.size) × (i.size ≤ length b)
given_size r b s i (items.Handshake h) gives =
    let g = gives.1 in
    let long : 68 ≤ length b = omega (arith, ap length g.begins.parts, length-append (hand h) (drop 68 b), hand-length h g.begins.fits) in
    (omega (arith, g.size), omega (arith, g.size, long))
given_size r b s i (items.Message msg) gives = message_size (context_of r) (order_in r.past) r.start b msg i.size gives.1.begins

opened_stays : (xs : List (ℕ × Item)) (r s : BtReader) (b c : List ℕ) → is_on r.opened ≡ true → Reads r b xs s c → is_on s.opened ≡ true
opened_stays [] r s b c opened reads = ap (λ z. is_on z.opened) reads.0 ∙ opened
opened_stays ((at, items.Handshake h) ∷ xs) r s b c opened (t, i, start, gives, reads) = opened_stays xs t s (drop i.size b) c gives.1.opened reads
opened_stays ((at, items.Message msg) ∷ xs) r s b c opened (t, i, start, gives, reads) =
    opened_stays xs t s (drop i.size b) c (opened_after r t b i msg opened gives.1) reads

not_0 : (n : ℕ) → 0 < n → (n == 0) ≡ false
not_0 n h = grind (arith, common_steps)

not_none : (n : ℕ) → 0 < n → not (n == 0) ≡ true
not_none n e = let other : (n == 0) ≡ false = not_0 n e in ap not other

opened_by : (xs : List (ℕ × Item)) (r s : BtReader) (b c : List ℕ) → is_on r.opened ≡ false → Reads r b xs s c → is_on s.opened ≡ not (length xs == 0)
opened_by [] r s b c closed reads = ap (λ z. is_on z.opened) reads.0 ∙ closed
opened_by ((at, items.Handshake h) ∷ xs) r s b c closed (t, i, start, gives, reads) =
    opened_stays xs t s (drop i.size b) c gives.1.opened reads ∙ sym (not_none (length ((at, items.Handshake h) ∷ xs)) (omega arith))
opened_by ((at, items.Message msg) ∷ xs) r s b c closed (t, i, start, gives, reads) = absurd (let e = sym gives.0 ∙ closed in cc)

complete : (s : BtReader) (c : List ℕ) (f : Option Refused) (xs : List (ℕ × Item)) (v : Outcome) → is_on s.opened ≡ not (length xs == 0)
    → IsRun s c f xs 0 v → is_complete_verdict v ≡ is_complete s c
complete s c f xs v opened run =
    let number : v.number ≡ length xs = omega (arith, run.number_after) in
    ap (λ n. not (n == 0) && (length v.tail == 0)) number ∙ ap (λ (z : List ℕ). not (length xs == 0) && (length z == 0)) run.tail
    ∙ ap (λ k. k && (length c == 0)) (sym opened)

end_refused : (v : Outcome) (r : Refusal) → v.refusal ≡ Some r → refusal_at_end v ≡ Some r
end_refused v r e = ap (λ (z : Option Refusal). elim z [ Some q ↦ Some q | None ↦ if is_complete_verdict v then None else Some (end_inside v) ]) e

end_open : (v : Outcome) (k : Bool) → v.refusal ≡ None → is_complete_verdict v ≡ k → refusal_at_end v ≡ (if k then None else Some (end_inside v))
end_open v k e f = ap (λ (z : Option Refusal). elim z [ Some q ↦ Some q | None ↦ if is_complete_verdict v then None else Some (end_inside v) ]) e
    ∙ ap (λ z. if z then None else Some (end_inside v)) f

-- what the verdict's struct says
pub record Says (x : BtVerdict) (b : List ℕ) (i : BtItem) (n count : ℕ) : Type 0 where
  pub end : n ≡ 3 → (x.message ≡ count - 1) × (x.at ≡ length b) × (x.reason ≡ 0)
  pub refused : n ≢ 3 → (x.message ≡ count) × (x.at ≡ min (i.start + i.size) (2 ^ 64 - 1)) × (x.reason ≡ i.reason)

pub checked : {s t : BtReader} {b c : List ℕ} {i : BtItem} {n count : ℕ} {x : BtVerdict} (own : BtOwn) (xs : List (ℕ × Item)) → own.limit < 2 ^ 32
    → Reads (new_reader own) b xs s c → length xs ≡ count
    → Ends s c t i n → n ≢ 1 → Says x b i n count → (v : Outcome) × IsVerdict (own_of own) b v × ShowsVerdict x b v n
checked own xs lt reads counted (Ends.item y gives) other says = absurd (other refl)
checked {s} {b} {c} {x} own xs lt reads counted (Ends.refused f fault shows same) other says =
    let found = run xs (new_reader own) s b c (Some f) lt refl reads fault in
    let v = found.0 in
    let told = says.refused (λ e. omega (arith, e)) in
    let r : Refusal = record { message = 0 + length xs; at = start_of s + f.at; reason = f.reason } in
    let P : Option Refusal → Type 0 = λ o. ShowsEnd x b v 2 o in (
      v,
      found.1,
      subst P (sym (end_refused v r found.2.refusal)) (
        refl,
        told.0 ∙ sym counted ∙ omega arith,
        told.1 ∙ omega (arith, shows.start, shows.at),
        told.2 ∙ shows.reason,
      ),
    )
checked {s} {b} {c} {x} own xs lt reads counted (Ends.inside lacks unfinished shows same) other says =
    let found = run xs (new_reader own) s b c None lt refl reads lacks in
    let v = found.0 in
    let told = says.refused (λ e. omega (arith, e)) in
    let whole = complete s c None xs v (opened_by xs (new_reader own) s b c refl reads) found.2 ∙ unfinished in
    let P : Option Refusal → Type 0 = λ o. ShowsEnd x b v 2 o in (
      v,
      found.1,
      subst P (sym (end_open v false found.2.refusal whole)) (
        refl,
        omega (arith, told.0, counted, found.2.number_after),
        told.1
            ∙ omega (arith, shows.start, shows.at, found.2.start, ap length found.2.tail),
        told.2 ∙ shows.reason,
      ),
    )
checked {s} {b} {c} {x} own xs lt reads counted (Ends.end lacks closed same) other says =
    let found = run xs (new_reader own) s b c None lt refl reads lacks in
    let v = found.0 in
    let told = says.end refl in
    let whole = complete s c None xs v (opened_by xs (new_reader own) s b c refl reads) found.2 ∙ closed in
    let P : Option Refusal → Type 0 = λ o. ShowsEnd x b v 3 o in
    (v, found.1, subst P (sym (end_open v true found.2.refusal whole)) (refl, omega (arith, told.0, counted, found.2.number_after), told.1, told.2))
