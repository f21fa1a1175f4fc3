-- What holds of the connections after one more packet, or after one was forgotten.
use Rattle.std.proofs.Common.{◌≡◌, ◌≢◌, ℕ, ◌+◌, Bool, true, false, is_some, if◌then◌else◌, Option, Some, None, List, [], ◌∷◌, ◌++◌}
use Rattle.std.proofs.Common.{refl, sym, ◌∙◌, ap, subst, arith, inl, inr}
use Rattle.std.specs.Option.{option_map}
use Rattle.std.proofs.lemmas.Bool.{cases_Bool, cases_eq, both_ways}
use Rattle.bt_packet.specs.declared.address.Address.{Address}
use Rattle.bt_packet.specs.Utp.{UtpPacket}
use Rattle.bt_order.specs.declared.link.Link.{Link}
use Rattle.bt_utp.specs.declared.connection.Connection.{Connection}
use Rattle.bt_utp.specs.declared.connection.Told.{Told}
use Rattle.bt_utp.specs.declared.entries.Entry.{Entry}
use Rattle.bt_utp.specs.declared.entries.Entries.{Entries}
use Rattle.bt_utp.specs.declared.links.Links.{Links}
use Rattle.bt_utp.specs.Channels.{Table, is_key, found, begins, begun_by, begin, is_from_initiator, has_number, is_live, forget, after_forget}
use Rattle.bt_utp.specs.Entries.{entry_at, has_entry, live_in, room_in, Puts, IsGone, IsSameEntries, HasTurned, HasStayed}
use Rattle.bt_utp.specs.Taken.{Taken, taken_by, IsTurn, TurnsEntry}
use Rattle.bt_utp.specs.Turnings.{IsNewLink, IsRun, packets_of, AreLinked, IsTold}
use Rattle.bt_utp.proofs.Runs.{run_more, run_stays, run_first, of_same, of_other}
use Rattle.bt_utp.proofs.Places.{same_table, key_same, key_self, found_placed, begun_keyed, begun_apart, forgotten_keyed, forgotten_apart}

abbrev connection_in : Entry → Connection
connection_in e = e.connection

abbrev HasRun : List Taken → Entry → Type 0
HasRun xs e = IsRun e.connection (packets_of e.connection.number xs) e.link

module _ (t : Table) (xs : List Taken) (s : Links) (are : AreLinked t xs s) where
  at_is : (a b : Address) (id : ℕ) → option_map connection_in (entry_at s.entries a b id) ≡ t.at a b id
  at_is a b id = ap (λ u. u.at a b id) are.table

  live_is : live_in s.entries ≡ t.live
  live_is = ap (λ u. u.live) are.table

  begun_is : s.begun ≡ t.begun
  begun_is = ap (λ u. u.begun) are.table

  stored : (a b : Address) (id : ℕ) (e : Entry) → entry_at s.entries a b id ≡ Some e → t.at a b id ≡ Some e.connection
  stored a b id e h = sym (at_is a b id) ∙ ap (option_map connection_in) h

-- ---- an entry was written

module _ (s s' : Entries) (k : Connection) (e' : Entry) (puts : Puts k.initiator k.acceptor k.id e' s s') where
  is_here : (a b : Address) (id : ℕ) → is_key k.initiator k.acceptor k.id a b id ≡ true → entry_at s' a b id ≡ Some e'
  is_here a b id y = puts a b id ∙ ap (λ t. if t then Some e' else entry_at s a b id) y

  is_else : (a b : Address) (id : ℕ) → is_key k.initiator k.acceptor k.id a b id ≡ false → entry_at s' a b id ≡ entry_at s a b id
  is_else a b id n = puts a b id ∙ ap (λ t. if t then Some e' else entry_at s a b id) n

was_here : (s : Entries) (k : Connection) (e : Entry) → entry_at s k.initiator k.acceptor k.id ≡ Some e
    → (a b : Address) (id : ℕ) → is_key k.initiator k.acceptor k.id a b id ≡ true → entry_at s a b id ≡ Some e
was_here s k e there a b id y =
    let q = key_same k.initiator k.acceptor k.id a b id y in
    ap (λ x. entry_at s x b id) (sym q.0) ∙ ap (λ x. entry_at s k.initiator x id) (sym q.1) ∙ ap (entry_at s k.initiator k.acceptor) (sym q.2) ∙ there

same_connection : (s s' : Entries) (k : Connection) (e e' : Entry) → entry_at s k.initiator k.acceptor k.id ≡ Some e
    → Puts k.initiator k.acceptor k.id e' s s' → e'.connection ≡ e.connection
    → (a b : Address) (id : ℕ) → option_map connection_in (entry_at s' a b id) ≡ option_map connection_in (entry_at s a b id)
same_connection s s' k e e' there puts same a b id = elim (cases_Bool (is_key k.initiator k.acceptor k.id a b id)) [
  | inl y ↦
      ap (option_map connection_in) (is_here s s' k e' puts a b id y) ∙ ap Some same
      ∙ sym (ap (option_map connection_in) (was_here s k e there a b id y))
  | inr n ↦ ap (option_map connection_in) (is_else s s' k e' puts a b id n)
]

unwrapped : (e e' : Entry) → Some e ≡ Some e' → e ≡ e'
unwrapped e e' h = cc

-- ---- out of memory

pub same_linked : (t : Table) (xs : List Taken) (s s' : Links) → AreLinked t xs s → IsSameEntries s.entries s'.entries → s'.begun ≡ s.begun
    → AreLinked t xs s'
same_linked t xs s s' are same begun = record {
  table = same_table s' t (λ a b id. ap (option_map connection_in) (same.entries a b id) ∙ at_is t xs s are a b id)
      (same.live ∙ live_is t xs s are) (begun ∙ begun_is t xs s are);
  keyed = are.keyed;
  apart = are.apart;
  live = λ a b id e h. are.live a b id e (sym (same.entries a b id) ∙ h);
  all = are.all;
  none = are.none;
}

pub stays_linked : (t : Table) (xs : List Taken) (s s' : Links) (k : Connection) → AreLinked t xs s → HasStayed k s.entries s'.entries → s'.begun ≡ s.begun
    → AreLinked t xs s'
stays_linked t xs s s' k are h begun = record {
  table = same_table s' t
      (λ a b id. same_connection s.entries s'.entries k h.entry h.entry' h.there h.puts h.same a b id ∙ at_is t xs s are a b id)
      (h.live ∙ live_is t xs s are) (begun ∙ begun_is t xs s are);
  keyed = are.keyed;
  apart = are.apart;
  live = λ a b id e g. elim (cases_Bool (is_key k.initiator k.acceptor k.id a b id)) [
    | inl y ↦
        let run = are.live a b id h.entry (was_here s.entries k h.entry h.there a b id y) in
        let more = run_stays h.entry.connection (packets_of h.entry.connection.number xs) h.entry.link h.entry'.link run h.stays in
        let own : HasRun xs h.entry' = subst (λ c. IsRun c (packets_of c.number xs) h.entry'.link) (sym h.same) more in
        subst (HasRun xs) (unwrapped h.entry' e (sym (is_here s.entries s'.entries k h.entry' h.puts a b id y) ∙ g)) own
    | inr n ↦ are.live a b id e (sym (is_else s.entries s'.entries k h.entry' h.puts a b id n) ∙ g)
  ];
  all = are.all;
  none = are.none;
}

-- ---- a packet of a connection

pub is_there : (t : Table) (xs : List Taken) (s : Links) (d : UtpPacket) (c : Connection) → AreLinked t xs s → found t d ≡ Some c
    → entry_at s.entries c.initiator c.acceptor c.id ≡ None → ⊥
is_there t xs s d c are is none =
    let e : Some c ≡ None =
    sym (found_placed t are.keyed d c is) ∙ sym (at_is t xs s are c.initiator c.acceptor c.id) ∙ ap (option_map connection_in) none in
    cc

module _ (t : Table) (xs : List Taken) (s s' : Links) (d : UtpPacket) (c : Connection) (told : Told) (are : AreLinked t xs s)
    (no : begins t d ≡ false) (is : found t d ≡ Some c) (h : HasTurned c d s'.bytes.items told s.entries s'.entries) (begun : s'.begun ≡ s.begun) where
  x : Taken
  x = taken_by d (room_in s.entries) s'.bytes.items told

  there : t.at c.initiator c.acceptor c.id ≡ Some c
  there = found_placed t are.keyed d c is

  known : h.entry.connection ≡ c
  known = let p : Some h.entry.connection ≡ Some c = sym (stored t xs s are c.initiator c.acceptor c.id h.entry h.there) ∙ there in cc

  own_number : told.connection.number ≡ c.number
  own_number = ap (λ c. c.number) (h.turns.connection ∙ known)

  more : IsRun h.entry.connection (packets_of h.entry.connection.number xs) h.entry.link → IsRun c (packets_of c.number (xs ++ x ∷ [])) h.entry'.link
  unfolding x
  more run =
      let turned = run_more h.entry.connection (packets_of h.entry.connection.number xs) (taken_by d (room_in s.entries) s'.bytes.items told)
      h.entry.link h.entry'.link run h.turns.turn in
      let own = of_same c.number xs (taken_by d (room_in s.entries) s'.bytes.items told) own_number in
      subst (λ l. IsRun c l h.entry'.link) (sym own)
      (subst (λ c. IsRun c (packets_of c.number xs ++ taken_by d (room_in s.entries) s'.bytes.items told ∷ []) h.entry'.link) known turned)

  last : IsRun c (packets_of c.number (xs ++ x ∷ [])) h.entry'.link
  last = more (are.live c.initiator c.acceptor c.id h.entry h.there)

  own_run : HasRun (xs ++ x ∷ []) h.entry'
  own_run = subst (λ c. IsRun c (packets_of c.number (xs ++ x ∷ [])) h.entry'.link) (sym (h.turns.same ∙ known)) last

  elsewhere : (a b : Address) (id : ℕ) (e : Entry) → entry_at s.entries a b id ≡ Some e → is_key c.initiator c.acceptor c.id a b id ≡ false
      → told.connection.number ≢ e.connection.number
  elsewhere a b id e g n f =
      let at' = stored t xs s are a b id e g in
      let same = are.apart a b id e.connection c.initiator c.acceptor c.id c at' there (sym f ∙ own_number) in
      let k = are.keyed a b id e.connection at' in
      let one : is_key e.connection.initiator e.connection.acceptor e.connection.id a b id ≡ true =
      ap (λ y. is_key y e.connection.acceptor e.connection.id a b id) k.initiator ∙ ap (λ y. is_key a y e.connection.id a b id) k.acceptor
      ∙ ap (λ y. is_key a b y a b id) k.has_id ∙ key_self a b id in
      both_ways (is_key c.initiator c.acceptor c.id a b id) n (ap (λ k. is_key k.initiator k.acceptor k.id a b id) (sym same) ∙ one)

  pub turned_linked : IsTold t xs d (room_in s.entries) told s'
  unfolding x
  turned_linked =
      let ys = xs ++ taken_by d (room_in s.entries) s'.bytes.items told ∷ [] in
      record {
        connection = ap (λ b. if b then Some (begun_by t.begun d) else found t d) no ∙ is ∙ ap Some (sym (h.turns.connection ∙ known));
        initiator = h.turns.initiator ∙ ap (λ c. is_from_initiator c d) (sym h.turns.connection);
        linked = subst (λ u. AreLinked u ys s') (sym (ap (λ b. if b then begin t d else t) no)) (record {
          table = same_table s' t
              (λ a b id. same_connection s.entries s'.entries c h.entry h.entry' h.there h.puts h.turns.same a b id ∙ at_is t xs s are a b id)
              (h.live ∙ live_is t xs s are) (begun ∙ begun_is t xs s are);
          keyed = are.keyed;
          apart = are.apart;
          live = λ a b id e g. elim (cases_Bool (is_key c.initiator c.acceptor c.id a b id)) [
            | inl y ↦ subst (HasRun ys) (unwrapped h.entry' e (sym (is_here s.entries s'.entries c h.entry' h.puts a b id y) ∙ g)) own_run
            | inr n ↦
                let old = sym (is_else s.entries s'.entries c h.entry' h.puts a b id n) ∙ g in
                let same = of_other e.connection.number xs (taken_by d (room_in s.entries) s'.bytes.items told) (elsewhere a b id e old n) in
                subst (λ l. IsRun e.connection l e.link) (sym same) (are.live a b id e old)
          ];
          all = λ n lt. elim (cases_eq c.number n) [
            | inl y ↦ (c, y, (h.entry'.link, subst (λ n. IsRun c (packets_of n ys) h.entry'.link) y last))
            | inr m ↦
                let o = are.all n lt in
                let same = of_other n xs (taken_by d (room_in s.entries) s'.bytes.items told) (λ f. m (sym own_number ∙ f)) in
                (o.0, o.1, (o.2.0, subst (λ l. IsRun o.0 l o.2.0) (sym same) o.2.1))
          ];
          none = λ n le.
              let k = (are.keyed c.initiator c.acceptor c.id c there).begun in
              of_other n xs (taken_by d (room_in s.entries) s'.bytes.items told) (λ f. absurd (omega (arith, f, own_number, k, le))) ∙ are.none n le;
        });
      }

-- ---- a SYN that begins a connection

mapped : (b : Bool) (e : Entry) (o : Option Entry)
    → option_map connection_in (if b then Some e else o) ≡ (if b then Some e.connection else option_map connection_in o)
mapped true e o = refl
mapped false e o = refl

some_mapped : (o : Option Entry) → is_some o ≡ is_some (option_map connection_in o)
some_mapped None = refl
some_mapped (Some e) = refl

module _ (t : Table) (xs : List Taken) (s s' : Links) (d : UtpPacket) (told : Told) (first : Link) (e' : Entry) (are : AreLinked t xs s)
    (new : IsNewLink d.number first)
    (turns : TurnsEntry d (room_in s.entries) s'.bytes.items told (record { connection = begun_by s.begun d; link = first }) e')
    (puts : Puts e'.connection.initiator e'.connection.acceptor e'.connection.id e' s.entries s'.entries)
    (live : live_in s'.entries ≡ (if has_entry s.entries e'.connection then live_in s.entries else live_in s.entries + 1))
    (begun : s'.begun ≡ s.begun + 1) where
  is_new : e'.connection ≡ begun_by t.begun d
  is_new = turns.same ∙ ap (λ n. begun_by n d) (begun_is t xs s are)

  told_new : told.connection ≡ begun_by t.begun d
  told_new = turns.connection ∙ ap (λ n. begun_by n d) (begun_is t xs s are)

  number_is : told.connection.number ≡ t.begun
  number_is = ap (λ c. c.number) told_new

  puts_new : Puts d.source d.target d.id e' s.entries s'.entries
  puts_new = subst (λ k. Puts k.initiator k.acceptor k.id e' s.entries s'.entries) is_new puts

  live_new : live_in s'.entries ≡ (begin t d).live
  live_new =
      subst (λ k. live_in s'.entries ≡ (if has_entry s.entries k then live_in s.entries else live_in s.entries + 1)) is_new live
      ∙ ap (λ b. if b then live_in s.entries else live_in s.entries + 1)
      (some_mapped (entry_at s.entries d.source d.target d.id) ∙ ap is_some (at_is t xs s are d.source d.target d.id))
      ∙ ap (λ m. if is_some (t.at d.source d.target d.id) then m else m + 1) (live_is t xs s are)

  at_new : (a b : Address) (id : ℕ) → option_map connection_in (entry_at s'.entries a b id) ≡ (begin t d).at a b id
  at_new a b id =
      ap (option_map connection_in) (puts_new a b id) ∙ mapped (is_key d.source d.target d.id a b id) e' (entry_at s.entries a b id)
      ∙ ap (λ c. if is_key d.source d.target d.id a b id then Some c else option_map connection_in (entry_at s.entries a b id)) is_new
      ∙ ap (λ o. if is_key d.source d.target d.id a b id then Some (begun_by t.begun d) else o) (at_is t xs s are a b id)

  new_run : IsRun (begun_by t.begun d) (packets_of t.begun (xs ++ taken_by d (room_in s.entries) s'.bytes.items told ∷ [])) e'.link
  new_run =
      let y = taken_by d (room_in s.entries) s'.bytes.items told in
      let own : packets_of t.begun (xs ++ y ∷ []) ≡ y ∷ [] =
      of_same t.begun xs y number_is ∙ ap (λ l. l ++ y ∷ []) (are.none t.begun (omega arith)) in
      let turn = subst (λ n. IsTurn (begun_by n d) y first e'.link) (begun_is t xs s are) turns.turn in
      subst (λ l. IsRun (begun_by t.begun d) l e'.link) (sym own) (run_first (begun_by t.begun d) y first e'.link new turn)

  pub begun_linked : AreLinked (begin t d) (xs ++ taken_by d (room_in s.entries) s'.bytes.items told ∷ []) s'
  begun_linked =
      let y = taken_by d (room_in s.entries) s'.bytes.items told in
      let k = begun_by t.begun d in
      record {
        table = same_table s' (begin t d) at_new live_new (begun ∙ ap (λ n. n + 1) (begun_is t xs s are));
        keyed = begun_keyed t d are.keyed;
        apart = begun_apart t d are.keyed are.apart;
        live = λ a b id e g. elim (cases_Bool (is_key d.source d.target d.id a b id)) [
          | inl here ↦
              let own : HasRun (xs ++ y ∷ []) e' = subst (λ c. IsRun c (packets_of c.number (xs ++ y ∷ [])) e'.link) (sym is_new) new_run in
              subst (HasRun (xs ++ y ∷ [])) (unwrapped e' e (sym (is_here s.entries s'.entries k e' puts_new a b id here) ∙ g)) own
          | inr other ↦
              let old = sym (is_else s.entries s'.entries k e' puts_new a b id other) ∙ g in
              let less = (are.keyed a b id e.connection (stored t xs s are a b id e old)).begun in
              let same = of_other e.connection.number xs y (λ f. absurd (omega (arith, f, number_is, less))) in
              subst (λ l. IsRun e.connection l e.link) (sym same) (are.live a b id e old)
        ];
        all = λ n lt. elim (cases_eq t.begun n) [
          | inl z ↦ (k, z, (e'.link, subst (λ n. IsRun k (packets_of n (xs ++ y ∷ [])) e'.link) z new_run))
          | inr m ↦
              let o = are.all n (omega (arith, m, lt)) in
              let same = of_other n xs y (λ f. m (sym number_is ∙ f)) in
              (o.0, o.1, (o.2.0, subst (λ l. IsRun o.0 l o.2.0) (sym same) o.2.1))
        ];
        none = λ n le. of_other n xs y (λ f. absurd (omega (arith, f, number_is, le))) ∙ are.none n (omega (arith, le));
      }

  pub begun_told : begins t d ≡ true → IsTold t xs d (room_in s.entries) told s'
  begun_told is_first =
      let y = taken_by d (room_in s.entries) s'.bytes.items told in
      record {
        connection = ap (λ b. if b then Some (begun_by t.begun d) else found t d) is_first ∙ ap Some (sym told_new);
        initiator = turns.initiator ∙ ap (λ c. is_from_initiator c d) (sym turns.connection);
        linked = subst (λ u. AreLinked u (xs ++ y ∷ []) s') (sym (ap (λ b. if b then begin t d else t) is_first)) begun_linked;
      }

-- ---- a connection is forgotten

has_some : (n : ℕ) (o : Option Connection) → has_number n o ≡ true → is_some o ≡ true
has_some n None h = cc
has_some n (Some c) h = refl

mapped_none : (b : Bool) (o : Option Entry) → option_map connection_in (if b then None else o) ≡ (if b then None else option_map connection_in o)
mapped_none true o = refl
mapped_none false o = refl

module _ (t : Table) (xs : List Taken) (s s' : Links) (k : Connection) (are : AreLinked t xs s) (there : is_live t k ≡ true)
    (gone : IsGone k.initiator k.acceptor k.id s.entries s'.entries)
    (live : live_in s'.entries + (if has_entry s.entries k then 1 else 0) ≡ live_in s.entries)
    (begun : s'.begun ≡ s.begun) where
  entry_left : (a b : Address) (id : ℕ) (e : Entry) → entry_at s'.entries a b id ≡ Some e → entry_at s.entries a b id ≡ Some e
  entry_left a b id e h = elim (cases_Bool (is_key k.initiator k.acceptor k.id a b id)) [
    | inl y ↦ let f : None ≡ Some e = sym (gone a b id ∙ ap (λ z. if z then None else entry_at s.entries a b id) y) ∙ h in cc
    | inr n ↦ sym (gone a b id ∙ ap (λ z. if z then None else entry_at s.entries a b id) n) ∙ h
  ]

  forgotten_linked : AreLinked (forget t k) xs s'
  forgotten_linked =
      let some : is_some (entry_at s.entries k.initiator k.acceptor k.id) ≡ true =
      some_mapped (entry_at s.entries k.initiator k.acceptor k.id) ∙ ap is_some (at_is t xs s are k.initiator k.acceptor k.id)
      ∙ has_some k.number (t.at k.initiator k.acceptor k.id) there in
      let one : ◌≡◌ {A = ℕ} (if has_entry s.entries k then 1 else 0) 1 = ap (λ z. if z then 1 else 0) some in
      record {
        table = same_table s' (forget t k)
            (λ a b id. ap (option_map connection_in) (gone a b id) ∙ mapped_none (is_key k.initiator k.acceptor k.id a b id) (entry_at s.entries a b id)
            ∙ ap (λ o. if is_key k.initiator k.acceptor k.id a b id then None else o) (at_is t xs s are a b id))
            (omega (arith, live, one, live_is t xs s are)) (begun ∙ begun_is t xs s are);
        keyed = forgotten_keyed t k are.keyed;
        apart = forgotten_apart t k are.apart;
        live = λ a b id e h. are.live a b id e (entry_left a b id e h);
        all = are.all;
        none = are.none;
      }

  pub forgotten : AreLinked (after_forget t k) xs s'
  forgotten = subst (λ u. AreLinked u xs s') (sym (ap (λ b. if b then forget t k else t) there)) forgotten_linked
