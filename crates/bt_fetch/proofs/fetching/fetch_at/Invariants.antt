use Rattle.std.proofs.Common.{◌≡◌, ◌≤◌, ◌+◌, List, Option, is_some, option_map, count_by, sum_by, All, vec_len}
use Rattle.bt_fetch.specs.Wishes.{handshake_of}
use Rattle.bt_fetch.specs.Dials.{burden}
use Rattle.bt_fetch.specs.Logs.{IsCourse, Going}
use Rattle.bt_fetch.specs.Queues.{dials_of, rest_of}
use Rattle.bt_fetch.specs.Swarms.{cost, outlook, weight}
use Rattle.bt_fetch.specs.declared.device.Happening.{Happening}
use Rattle.bt_fetch.proofs.fetching.fetch_at.Given as goal

-- no end has the metadata yet
abbrev pub invariant-rounds : goal.invariant-rounds
invariant-rounds g l = record {
  kept : All (λ p. p.end.end.handshake ≡ handshake_of l.fn.wish) l.places.items;
  inside : g.D.Device.inside l.device + count_by (λ p. is_some p.visit) l.fn.places.items + count_by (λ s. is_some s) l.fn.dials.slots.items
      ≡ g.D.Device.inside l.fn.device + count_by (λ p. is_some p.visit) l.places.items + count_by (λ s. is_some s) l.dials.slots.items;
  places : g.D.Device.places l.device ≡ g.D.Device.places l.fn.device;
  held : vec_len l.places ≡ vec_len l.fn.places;
  slots : vec_len l.dials.slots ≡ vec_len l.fn.dials.slots;
  fits : vec_len l.queue.again ≤ (g.D.Device.list l.device).known;
  log : (start : Option (List Happening)) → IsCourse Going start (g.D.Device.log l.fn.device) (dials_of l.fn.queue.next l.fn.queue.again.items)
      → IsCourse Going start (g.D.Device.log l.device) (dials_of l.queue.next l.queue.again.items);
}

-- the looks and the steps that may still be made, what each dial costs, also at addresses that aren't known yet, and how often the device
-- may say that more may come
abbrev pub decreases-rounds : goal.decreases-rounds
decreases-rounds g l = sum_by (λ p. weight (option_map (λ v. v.left) p.visit)) l.places.items
    + sum_by (λ s. burden (option_map (λ d. d.left) s)) l.dials.slots.items
    + cost (rest_of l.queue.next l.queue.again.items) + outlook (g.D.Device.list l.device) (vec_len l.queue.again)
