use Rattle.std.proofs.Common.{◌≡◌, ◌≤◌, ◌<◌, ◌+◌, true, false, not, List, Option, is_some, option_map, count_by, sum_by, All, vec_len}
use Rattle.bt_fetch.specs.Wishes.{handshake_of}
use Rattle.bt_fetch.specs.Dials.{burden}
use Rattle.bt_fetch.specs.Logs.{IsCourse, Going}
use Rattle.bt_fetch.specs.Queues.{dials_of, one, rest_of}
use Rattle.bt_fetch.specs.Swarms.{cost, weight}
use Rattle.bt_fetch.specs.declared.device.Happening.{Happening}
use Rattle.bt_fetch.proofs.fetching.give_turns.Given as goal

-- the places so far had their turn, and no end has the metadata
abbrev pub invariant-loop-at : goal.invariant-loop-at
invariant-loop-at g l = record {
  kept : All (λ p. p.end.end.handshake ≡ handshake_of l.fn.wish) l.places.items;
  inside : g.D.Device.inside l.device + count_by (λ p. is_some p.visit) l.fn.places.items + count_by (λ s. is_some s) l.fn.dials.slots.items
      ≡ g.D.Device.inside l.fn.device + count_by (λ p. is_some p.visit) l.places.items + count_by (λ s. is_some s) l.dials.slots.items;
  places : g.D.Device.places l.device ≡ g.D.Device.places l.fn.device;
  list : g.D.Device.list l.device ≡ g.D.Device.list l.fn.device;
  held : vec_len l.places ≡ vec_len l.fn.places;
  slots : vec_len l.dials.slots ≡ vec_len l.fn.dials.slots;
  len : vec_len l.queue.again ≡ vec_len l.fn.queue.again;
  log : (start : Option (List Happening)) → IsCourse Going start (g.D.Device.log l.fn.device) (dials_of l.fn.queue.next l.fn.queue.again.items)
      → IsCourse Going start (g.D.Device.log l.device) (dials_of l.queue.next l.queue.again.items);
  weight : sum_by (λ p. weight (option_map (λ v. v.left) p.visit)) l.places.items + sum_by (λ s. burden (option_map (λ d. d.left) s)) l.dials.slots.items
      + cost (rest_of l.queue.next l.queue.again.items) + one (not l.is_over)
      ≤ sum_by (λ p. weight (option_map (λ v. v.left) p.visit)) l.fn.places.items + sum_by (λ s. burden (option_map (λ d. d.left) s)) l.fn.dials.slots.items
      + cost (rest_of l.fn.queue.next l.fn.queue.again.items);
  seeks : l.seeks ≡ false → 0 < l.at;
  over : l.is_over ≡ true → 0 < l.at → l.queue.next ≡ vec_len l.queue.again;
}
