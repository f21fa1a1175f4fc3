-- The segments of a connection are all of the same connection of uTP, or of none.
use Rattle.std.proofs.Common.{◌≡◌, ℕ, List, [], ◌∷◌, ◌++◌, append-nil, Option, sym, ap, subst, inl, inr, ◌∙◌}
use Rattle.std.specs.List.{All, filter}
use Rattle.std.proofs.lemmas.Bool.{cases_Bool}
use Rattle.std.proofs.lemmas.List.Elements.{All-cons, All-head, All-nil, All-tail}
use Rattle.bt_pcap.specs.Formats.{Captured}
use Rattle.bt_capture.specs.declared.pair.Pair.{Pair}
use Rattle.bt_capture.specs.Arrivals.{Arrival, is_between, pair_of}
use Rattle.bt_capture.specs.Following.{Finished, taken_between}
use Rattle.bt_capture.specs.Runs.{AreAllOver, Origin}
use Rattle.bt_capture.specs.Tables.{same_pair}
use Rattle.bt_capture.proofs.Entries.{same_is, same_self}

-- It is of this connection of uTP, or of none.
abbrev Is : Option ℕ → Arrival → Type 0
Is link x = x.link ≡ link

kept : (k : Pair) (came : List Arrival) → All (Is k.link) (filter (is_between k) came)
kept k [] = All-nil (Is k.link)
kept k (x ∷ xs) = elim (cases_Bool (is_between k x)) [
  | inl t ↦
      let own : Is k.link x = ap (λ (q : Pair). q.link) (sym (same_is k (pair_of x) t)) in
      rw t (All-cons (Is k.link) x (filter (is_between k) xs) own (kept k xs))
  | inr e ↦ rw e (kept k xs)
]

front : (P : Arrival → Type 0) (xs ys : List Arrival) → All P (xs ++ ys) → All P xs
front P [] ys a = All-nil P
front P (x ∷ xs) ys a = All-cons P x xs (All-head P x (xs ++ ys) a) (front P xs ys (All-tail P x (xs ++ ys) a))

back : (P : Arrival → Type 0) (xs ys : List Arrival) → All P (xs ++ ys) → All P ys
back P [] ys a = a
back P (x ∷ xs) ys a = back P xs ys (All-tail P x (xs ++ ys) a)

each : (fs : List Finished) → ((k : Pair) → All (Is k.link) (taken_between k fs)) → All (λ f. All (Is f.pair.link) f.taken) fs
each [] all = All-nil (λ (f : Finished). All (Is f.pair.link) f.taken)
each (f ∷ fs) all =
    let rest : (k : Pair) → All (Is k.link) (taken_between k fs) = λ k. elim (cases_Bool (same_pair k f.pair)) [
      | inl t ↦ back (Is k.link) f.taken (taken_between k fs) (rw t at (all k))
      | inr e ↦ rw e at (all k)
    ] in
    All-cons (λ (g : Finished). All (Is g.pair.link) g.taken) f fs
    (front (Is f.pair.link) f.taken (taken_between f.pair fs) (rw (same_self f.pair) at (all f.pair))) (each fs rest)

pub apart_by_link : (o : Origin) (packets : List Captured) (came : List Arrival) (fs : List Finished) → AreAllOver o packets came fs
    → All (λ f. All (λ x. x.link ≡ f.pair.link) f.taken) fs
apart_by_link o packets came fs i =
    each fs (λ k. subst (λ l. All (Is k.link) l) (i.shared k ∙ append-nil (taken_between k fs)) (kept k came))
