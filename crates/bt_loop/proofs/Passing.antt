-- What goes one way over a wire, put together from calls.
use Rattle.std.proofs.Common.{◌≡◌, ◌⊎◌, inl, inr, ℕ, zero, suc, ◌+◌, ◌-◌, ◌*◌, ◌≤◌, ◌<◌, ◌==◌, ◌&&◌, min, Bool, true, false, List, [], ◌∷◌, ◌++◌, length, take, drop, Option, Result, Ok, Err}
use Rattle.std.proofs.Common.{refl, sym, ap, subst, ◌∙◌, arith, add-one, length-append, length-drop, length-take-le, nat_lt, take-add, take-take}
use Rattle.std.proofs.lemmas.Bool.{ne_eqb}
use Rattle.std.proofs.lemmas.List.{drop-drop, drop_at, take_all, take_at, take-append-le}
use Rattle.std.specs.Io.KnownBytes.{Consumes, Appends}
use Rattle.std.proofs.KnownBytes.{Consumes-nil, Consumes-trans}
use Rattle.bt_io.specs.Counts.{Grew, counted, one_more}
use Rattle.bt_feed.specs.Feeds.{taken}
use Rattle.bt_end.specs.Halves.{HalfState, received, without_sent, stopping, IsTurned, AreHandled}
use Rattle.bt_end.specs.declared.end.Turn.TheVariants as turn
use Rattle.bt_end.specs.declared.end.TurnError.{TurnError}
use Rattle.bt_end.specs.declared.end.TurnError.TheVariants as turn_error
use Rattle.bt_end.proofs.Handling.{idle_used}
use Rattle.bt_session.specs.declared.link.Side.{Side}
use Rattle.bt_session.specs.declared.link.Side.TheVariants.{Left, Right}
use Rattle.bt_loop.specs.Rounds.{IsSent, IsFilled, IsTaken, IsCarried, IsSkipped, IsWay, IsHalt, IsRound, IsHalted, Ends, AreRounds, ends_of, is_quiet, is_halt, capped}
use Rattle.bt_loop.specs.Rounds.{HasRun, Passes, Exchanges, halt_of}
use Rattle.bt_loop.specs.declared.both.Handled.{Handled}
use Rattle.bt_loop.specs.declared.both.Halt.{Halt}
use Rattle.bt_loop.specs.declared.both.Halt.TheVariants as halt
use Rattle.bt_loop.specs.Wires.{WireSeen, IsCall, Sends, Receives, coming, other}

-- ---- calls

some_given : (n : ℕ) → 0 < n → nat_lt 0 n ≡ true
some_given n l = search (arith, l)

-- a call that moved something failed nothing
moved_calm : {E : Type 0} {s t : WireSeen} (n room : ℕ) → 1 ≤ n → IsCall {E = E} s t (Ok n) room → t.failed ≡ s.failed
moved_calm {s} n room le call =
    let some : (n == 0) ≡ false = ne_eqb n 0 (λ z. omega (arith, le, z)) in
    call.failed ∙ ap (λ (x : Bool). counted (x && nat_lt 0 room) s.failed) some

pub sent_so : {E : Type 0} {s t : WireSeen} {a : HalfState} (from : Side) (n count : ℕ) → 1 ≤ n → count ≤ 4096 → count ≤ length a.outbox
    → Sends {E = E} from s t (Ok n) (take count a.outbox) → IsCall {E = E} s t (Ok n) (length (take count a.outbox)) → IsSent from s t a (without_sent n a) n
sent_so {s} {t} {a} from n count least most within sends call =
    let le : n ≤ count = omega (arith, sends.0, length-take-le count a.outbox within) in
    record {
      least = least;
      most = omega (arith, le, most, within);
      sent = refl;
      goes = subst (Appends (coming (other from) s) (coming (other from) t)) (take-take n count a.outbox le) sends.1;
      back = sends.2;
      calls = omega (arith, call.calls);
      calm = moved_calm n (length (take count a.outbox)) least call;
    }

-- a call that moved nothing of what isn't empty
pub none_failed : {E : Type 0} {s t : WireSeen} (room : ℕ) → 0 < room → IsCall {E = E} s t (Ok 0) room → Grew s.failed t.failed
none_failed {s} {t} room some call below =
    let failed : t.failed ≡ one_more s.failed = call.failed ∙ ap (λ (b : Bool). counted b s.failed) (some_given room some) in
    omega (arith, failed, below)

pub err_failed : {E : Type 0} {s t : WireSeen} (e : E) (room : ℕ) → IsCall {E = E} s t (Err e) room → Grew s.failed t.failed
err_failed {s} {t} e room call below =
    let failed : t.failed ≡ one_more s.failed = call.failed in
    omega (arith, failed, below)

-- ---- a buffer that is filled

-- the first `done` bytes of the buffer came by calls that failed nothing
pub record IsFilling (at : Side) (s t : WireSeen) (bytes : List ℕ) (done : ℕ) : Type 0 where
  pub within : done ≤ length bytes
  pub comes : Consumes (coming at s) (coming at t) (take done bytes)
  pub back : coming (other at) t ≡ coming (other at) s
  pub calls : 1 ≤ done → capped (s.calls + 1) ≤ t.calls
  pub least : capped s.calls ≤ t.calls
  pub calm : t.failed ≡ s.failed

pub filling_first : (at : Side) (s : WireSeen) (bytes : List ℕ) → IsFilling at s s bytes 0
filling_first at s bytes = record {
  within = omega arith;
  comes = Consumes-nil (coming at s);
  back = refl;
  calls = λ e. omega (arith, e);
  least = omega arith;
  calm = refl;
}

-- a call put n bytes more after them
pub filling_more : {E : Type 0} {at : Side} {s t u : WireSeen} {old : List ℕ} {done n : ℕ} (new sub after : List ℕ) (room : ℕ) → IsFilling at s t old done → 1 ≤ n
    → Receives {E = E} at t u (Ok n) sub → IsCall {E = E} t u (Ok n) room → new ≡ take done old ++ (sub ++ after) → IsFilling at s u new (done + n)
filling_more {at} {s} {t} {u} {old} {done} {n} new sub after room f le r call is =
    let front : length (take done old) ≡ done = length-take-le done old f.within in
    let first : take done new ≡ take done old = ap (take done) is ∙ take_at (take done old) (sub ++ after) done front in
    let later : take n (drop done new) ≡ take n sub =
    ap (λ (x : List ℕ). take n (drop done x)) is ∙ ap (take n) (drop_at (take done old) (sub ++ after) done front) ∙ take-append-le n sub after r.0 in
    let all : take (done + n) new ≡ take done old ++ take n sub =
    take-add done n new ∙ ap (λ (x : List ℕ). x ++ take n (drop done new)) first ∙ ap (λ (x : List ℕ). take done old ++ x) later in
    let both : Consumes (coming at s) (coming at u) (take done old ++ take n sub) =
    Consumes-trans (coming at s) (coming at t) (coming at u) (take done old) (take n sub) f.comes r.1 in
    record {
      within = omega (arith, r.0, ap (length {A = ℕ}) is, length-append (take done old) (sub ++ after), length-append sub after, front);
      comes = subst (Consumes (coming at s) (coming at u)) (sym all) both;
      back = r.2 ∙ f.back;
      calls = λ e. omega (arith, call.calls, f.least);
      least = omega (arith, call.calls, f.least);
      calm = moved_calm n room le call ∙ f.calm;
    }

pub filled : {at : Side} {s t : WireSeen} (bytes : List ℕ) (done : ℕ) → IsFilling at s t bytes done → length bytes ≤ done → IsFilled at s t bytes
filled {at} {s} {t} bytes done f all =
    let size : done ≡ length bytes = omega (arith, all, f.within) in
    record {
      comes = subst (Consumes (coming at s) (coming at t)) (take_all done bytes all) f.comes;
      back = f.back;
      calls = λ e. f.calls (omega (arith, e, size));
      least = f.least;
      calm = f.calm;
    }

-- ---- an end that is given bytes

-- with n bytes used, and this end left, whatever is handled of the rest is handled of the whole, and `count` items more
pub record IsUnderWay (a : HalfState) (bytes : List ℕ) (n : ℕ) (now : HalfState) (items : ℕ) : Type 0 where
  pub within : n ≤ length bytes
  pub count : ℕ
  pub items_are : items ≡ capped count
  pub follows : (ends : List HalfState) (k : ℕ) (stop : Result Unit TurnError) (b : HalfState) → AreHandled ends now (drop n bytes) k stop b
      → (all : List HalfState) × AreHandled all a bytes (n + k) stop b × (length all ≡ count + length ends)

pub under_way_first : (a : HalfState) (bytes : List ℕ) → IsUnderWay a bytes 0 a 0
under_way_first a bytes = record {
  within = omega arith;
  count = 0;
  items_are = refl;
  follows = λ ends k stop b h.
      let same : k ≡ 0 + k = omega arith in
      (ends, subst (λ (x : ℕ). AreHandled ends a bytes x stop b) same h, omega arith);
}

-- a turn that handled an item
pub under_way_more : {a now : HalfState} {items more : ℕ} (next : HalfState) {bytes rest : List ℕ} {n t : ℕ} → rest ≡ drop n bytes → t ≡ taken now.feed rest
    → t ≤ length rest → more ≡ min (items + 1) 18446744073709551615 → IsUnderWay a bytes n now items → IsTurned (received now rest) (Ok turn.Handled) next
    → IsUnderWay a bytes (n + t) next more
under_way_more {a} {now} {items} {more} next {bytes} {rest} {n} {t} r e le m u h = record {
  within = omega (arith, le, ap (length {A = ℕ}) r, length-drop n bytes, u.within);
  count = u.count + 1;
  items_are = omega (arith, m, u.items_are);
  follows = λ ends k stop b later.
      let same : drop (n + t) bytes ≡ drop (taken now.feed rest) rest = sym (drop-drop t n bytes) ∙ ap (drop t) (sym r) ∙ ap (λ (x : ℕ). drop x rest) e in
      let one : AreHandled (next ∷ ends) now rest (t + k) stop b =
      (h, (k, ap (λ (x : ℕ). x + k) e, subst (λ (x : List ℕ). AreHandled ends next x k stop b) same later)) in
      let all = u.follows (next ∷ ends) (t + k) stop b (subst (λ (x : List ℕ). AreHandled (next ∷ ends) now x (t + k) stop b) r one) in
      (all.0, subst (λ (x : ℕ). AreHandled all.0 a bytes x stop b) (omega arith) all.1, omega (arith, all.2));
}

-- the last turn
pub under_way_last : {a now : HalfState} {items : ℕ} (next : HalfState) {bytes rest : List ℕ} {n t : ℕ} (stop : Result Unit TurnError) → rest ≡ drop n bytes
    → t ≡ taken now.feed rest → t ≤ length rest → IsUnderWay a bytes n now items → IsTurned (received now rest) (stopping stop) next
    → IsTaken a bytes items stop next
under_way_last {a} {now} {items} next {bytes} {rest} {n} {t} stop r e le u h =
    let last : AreHandled [] now rest t stop next = (e, h) in
    let all = u.follows [] t stop next (subst (λ (x : List ℕ). AreHandled [] now x t stop next) r last) in
    record {
      ends = all.0;
      used = n + t;
      handled = all.1;
      all = λ is. idle_used now next bytes rest n t r e le u.within (subst (λ (x : Result Unit TurnError). IsTurned (received now rest) (stopping x) next) is h);
      count = u.items_are ∙ ap capped (omega (arith, all.2));
    }

-- ---- one way

other_twice : (s : Side) → other (other s) ≡ s
other_twice Left = refl
other_twice Right = refl

pub carried : {s u t : WireSeen} {a a' b b' : HalfState} {n items : ℕ} (from : Side) (bytes : List ℕ) (stop : Result Unit TurnError) → IsSent from s u a a' n
    → length bytes ≡ n → IsFilled (other from) u t bytes → (h : IsTaken b bytes items stop b') → IsCarried from stop s t a a' b b' (length h.ends)
carried {s} {u} {t} {a} {n} from bytes stop sent size filled h =
    let back : coming from t ≡ coming from u = subst (λ (x : Side). coming x t ≡ coming x u) (other_twice from) filled.back in
    let len : n ≡ length bytes = sym size in
    record {
      bytes = bytes;
      least = omega (arith, sent.least, size);
      most = omega (arith, sent.most, size);
      sent = sent.sent ∙ ap (λ (k : ℕ). without_sent k a) len;
      middle = coming (other from) u;
      goes = subst (λ (k : ℕ). Appends (coming (other from) s) (coming (other from) u) (take k a.outbox)) len sent.goes;
      comes = filled.comes;
      back = back ∙ sent.back;
      calls = omega (arith, sent.calls, filled.calls (omega (arith, sent.least, size)));
      calm = filled.calm ∙ sent.calm;
      ends = h.ends;
      used = h.used;
      handled = h.handled;
      all = h.all;
      count = refl;
    }

-- ---- rounds

-- one way makes two calls at least, or none, and none fails
way_counts : {from : Side} {s t : WireSeen} {a a' b b' : HalfState} {items : ℕ} → IsWay from s t a a' b b' items
    → (t.failed ≡ s.failed) × (capped s.calls ≤ t.calls)
way_counts (inl c) = (c.calm, omega (arith, c.calls))
way_counts {s} (inr n) = (ap (λ (x : WireSeen). x.failed) n.seen, omega (arith, ap (λ (x : WireSeen). x.calls) n.seen))

pub way_calm : {from : Side} {s t : WireSeen} {a a' b b' : HalfState} {items : ℕ} → IsWay from s t a a' b b' items → t.failed ≡ s.failed
way_calm w = (way_counts w).0

pub both_empty : (l r : HalfState) → l.outbox ≡ [] → r.outbox ≡ [] → is_quiet l r ≡ true
both_empty l r e f =
    let P : List ℕ → List ℕ → Bool = λ x y. (length x == 0) && (length y == 0) in
    ap (λ (x : List ℕ). P x r.outbox) e ∙ ap (P []) f

-- one of the two ways has something to send
pub not_both : {s u t : WireSeen} {l l' r r' x y : HalfState} {m n : ℕ} → IsSkipped s u l x r y n → IsSkipped u t y r' x l' m → is_quiet l r ≡ false → ⊥
not_both {l} {r} g c some =
    let quiet : is_quiet l r ≡ true = both_empty l r g.empty (sym (ap (λ (h : HalfState). h.outbox) g.receiver) ∙ c.empty) in
    let both : true ≡ false = sym quiet ∙ some in
    cc

two_calls : {s u t : WireSeen} {l l' r r' x y : HalfState} {m n : ℕ} (g : IsWay Left s u l x r y n) (c : IsWay Right u t y r' x l' m)
    → is_quiet l r ≡ false → capped (s.calls + 2) ≤ t.calls
two_calls (inl g) (inl c) some = omega (arith, g.calls, c.calls)
two_calls (inl g) (inr c) some = omega (arith, g.calls, ap (λ (x : WireSeen). x.calls) c.seen)
two_calls (inr g) (inl c) some = omega (arith, ap (λ (x : WireSeen). x.calls) g.seen, c.calls)
two_calls (inr g) (inr c) some = absurd (not_both g c some)

-- each round makes two calls, of which none fails
pub rounds_calls : (n : ℕ) (old new : Ends) → AreRounds n old new
    → (new.seen.failed ≡ old.seen.failed) × (capped (old.seen.calls + 2 * n) ≤ new.seen.calls)
rounds_calls zero old new h =
    (ap (λ (e : Ends). e.seen.failed) h, omega (arith, ap (λ (e : Ends). e.seen.calls) h))
rounds_calls (suc n) old new h =
    let before = rounds_calls n old h.0 h.1 in
    let x = h.4 in
    (way_calm x.comes ∙ way_calm x.goes ∙ before.0, omega (arith, before.1, two_calls x.goes x.comes x.some))

pub halted_calm : {s t : WireSeen} {l l' r r' : HalfState} → IsHalted s t l l' r r' → t.failed ≡ s.failed
halted_calm (inl h) = h.3.calm
halted_calm (inr h) = h.5.3.calm ∙ way_calm h.4

-- ---- what a function answers

-- the run goes on
pub more_rounds : (n : ℕ) (old middle new : Ends) (m k : ℕ) → AreRounds n old middle
    → IsRound middle.seen new.seen middle.left new.left middle.right new.right m k
    → new.left_items ≡ middle.left_items + m → new.right_items ≡ middle.right_items + k → AreRounds (n + 1) old new
more_rounds n old middle new m k h x left right =
    let all : AreRounds (suc n) old new = (middle, h, m, k, x, left, right) in
    subst (λ (i : ℕ). AreRounds i old new) (sym (add-one n)) all

-- as many rounds were made, and the items that are counted were handled in them
pub record IsRunning (rounds : ℕ) (s t : WireSeen) (l l' r r' : HalfState) (h : Handled) : Type 0 where
  pub at_left : ℕ
  pub at_right : ℕ
  pub left : h.left ≡ capped at_left
  pub right : h.right ≡ capped at_right
  pub rounds_are : AreRounds rounds (ends_of s l r 0 0) (ends_of t l' r' at_left at_right)

pub running_first : (s : WireSeen) (l r : HalfState) (h : Handled) → h.left ≡ 0 → h.right ≡ 0 → IsRunning 0 s s l l r r h
running_first s l r h e f =
    record { at_left = 0; at_right = 0; left = omega (arith, e); right = omega (arith, f); rounds_are = refl }

pub running_more : {s t u : WireSeen} {l l' l'' r r' r'' : HalfState} {i : ℕ} {h more : Handled} (k : Handled) → IsRunning i s t l l' r r' h
    → Exchanges t u l' l'' r' r'' (Ok more) → k.left ≡ min (h.left + more.left) 18446744073709551615
    → k.right ≡ min (h.right + more.right) 18446744073709551615 → IsRunning (i + 1) s u l l'' r r'' k
running_more {s} {t} {u} {l} {l'} {l''} {r} {r'} {r''} {i} k run x left right = record {
  at_left = run.at_left + x.0;
  at_right = run.at_right + x.1;
  left = omega (arith, left, run.left, x.2);
  right = omega (arith, right, run.right, x.3);
  rounds_are = more_rounds i (ends_of s l r 0 0) (ends_of t l' r' run.at_left run.at_right) (ends_of u l'' r'' (run.at_left + x.0) (run.at_right + x.1))
      x.0 x.1 run.rounds_are x.4 refl refl;
}

pub running_quiet : {s t : WireSeen} {l l' r r' : HalfState} {i : ℕ} {h : Handled} (rounds : ℕ) → IsRunning i s t l l' r r' h → i ≤ rounds
    → is_quiet l' r' ≡ true → HasRun rounds s t l l' r r' (Ok h)
running_quiet {i} rounds run le quiet = (run.at_left, run.at_right, (i, le, run.rounds_are, quiet, run.left, run.right))

pub running_halt : {s t : WireSeen} {l l' r r' : HalfState} {i : ℕ} {h : Handled} (u : WireSeen) (l'' r'' : HalfState) (rounds : ℕ) (e : Halt)
    → IsRunning i s t l l' r r' h → i < rounds → Exchanges t u l' l'' r' r'' (Err e) → HasRun rounds s u l l'' r r'' (Err e)
running_halt {s} {t} {l} {l'} {r} {r'} {i} u l'' r'' rounds halt.Stopped run lt x =
    (run.at_left, run.at_right, (i, lt, ends_of t l' r' run.at_left run.at_right, run.rounds_are, x))
running_halt u l'' r'' rounds halt.Rounds run lt x = absurd x
running_halt {s} {t} {l} {l'} {r} {r'} {i} u l'' r'' rounds halt.Net run lt x =
    let calm = (rounds_calls i (ends_of s l r 0 0) (ends_of t l' r' run.at_left run.at_right) run.rounds_are).0 in
    (run.at_left, run.at_right, λ below. omega (arith, calm, x (omega (arith, calm, below)), below))
running_halt {s} {t} {l} {l'} {r} {r'} {i} u l'' r'' rounds halt.Memory run lt x =
    (run.at_left, run.at_right, x ∙ (rounds_calls i (ends_of s l r 0 0) (ends_of t l' r' run.at_left run.at_right) run.rounds_are).0)

pub running_all : {s t : WireSeen} {l l' r r' : HalfState} {i : ℕ} {h : Handled} (rounds : ℕ) → IsRunning i s t l l' r r' h → i ≡ rounds
    → is_quiet l' r' ≡ false → HasRun rounds s t l l' r r' (Err halt.Rounds)
running_all {s} {t} {l} {l'} {r} {r'} rounds run all loud =
    let A : ℕ → Type 0 = λ n. AreRounds n (ends_of s l r 0 0) (ends_of t l' r' run.at_left run.at_right) in
    (run.at_left, run.at_right, (subst A all run.rounds_are, loud))

-- ---- one way, by what it answers

pub passes_skipped : (from : Side) (s : WireSeen) (a b : HalfState) → a.outbox ≡ [] → Passes from s s a a b b (Ok 0)
passes_skipped from s a b empty = (0, omega arith, inr (record { empty = empty; seen = refl; sender = refl; receiver = refl; none = refl }))

pub passes : {s u t : WireSeen} {a a' b b' : HalfState} {n k : ℕ} (from : Side) (bytes : List ℕ) → IsSent from s u a a' n
    → length bytes ≡ n → IsFilled (other from) u t bytes → IsTaken b bytes k (Ok tt) b' → Passes from s t a a' b b' (Ok k)
passes from bytes sent size filled h = (length h.ends, h.count, inl (carried from bytes (Ok tt) sent size filled h))

pub passes_stopped : {s u t : WireSeen} {a a' b b' : HalfState} {n k : ℕ} (from : Side) (bytes : List ℕ) (e : TurnError) → is_halt e ≡ true
    → IsSent from s u a a' n → length bytes ≡ n → IsFilled (other from) u t bytes → IsTaken b bytes k (Err e) b'
    → Passes from s t a a' b b' (Err halt.Stopped)
passes_stopped from bytes e is sent size filled h = (e, length h.ends, is, carried from bytes (Err e) sent size filled h)

pub passes_err : {s u t : WireSeen} {a a' b b' : HalfState} {n k : ℕ} (from : Side) (bytes : List ℕ) (e : TurnError) → IsSent from s u a a' n
    → length bytes ≡ n → IsFilled (other from) u t bytes → IsTaken b bytes k (Err e) b' → Passes from s t a a' b b' (Err (halt_of e))
passes_err from bytes (turn_error.Refused r) sent size filled h = passes_stopped from bytes (turn_error.Refused r) refl sent size filled h
passes_err from bytes turn_error.Busy sent size filled h = passes_stopped from bytes turn_error.Busy refl sent size filled h
passes_err from bytes turn_error.Memory sent size filled h = filled.calm ∙ sent.calm

-- the receiver stopped, given what was filled at the front of a buffer
pub passes_halt : {s u t : WireSeen} {a a' b b' : HalfState} {n k : ℕ} {stop : Result Unit TurnError} (from at : Side) (into rest : List ℕ) (e : TurnError)
    (h : Halt) → length into ≡ n → IsSent from s u a a' n → at ≡ other from → IsFilled at u t into → IsTaken b (take n (into ++ rest)) k stop b'
    → stop ≡ Err e → h ≡ halt_of e → Passes from s t a a' b b' (Err h)
passes_halt {s} {u} {t} {a} {a'} {b} {b'} {n} {k} {stop} from at into rest e h size sent side filled h' is by =
    let there = subst (λ (x : Side). IsFilled x u t into) side filled in
    let whole = subst (λ (x : List ℕ). IsTaken b x k stop b') (take_at into rest n size) h' in
    let stopped = subst (λ (x : Result Unit TurnError). IsTaken b into k x b') is whole in
    subst (λ (x : Halt). Passes from s t a a' b b' (Err x)) (sym by) (passes_err from into e sent size there stopped)
