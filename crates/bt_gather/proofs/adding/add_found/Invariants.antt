use Rattle.std.proofs.Common.{◌≡◌, ◌≤◌, take, vec_len}
use Rattle.bt_gather.specs.Gathers.{gathered}
use Rattle.bt_gather.proofs.adding.add_found.Given as goal

-- the list has what was found before this number
abbrev pub invariant-loop-at : goal.invariant-loop-at
invariant-loop-at g l = record {
  named : l.fn.named ≤ vec_len l.addresses;
  order : l.addresses.items ≡ gathered (take l.fn.named l.addresses.items) (take l.at l.fn.found);
  stays : take l.fn.named l.addresses.items ≡ take l.fn.named l.fn.addresses.items;
  grown : vec_len l.fn.addresses ≤ vec_len l.addresses;
  fits : vec_len l.addresses ≤ l.fn.most;
  log : g.D.Device.log l.device ≡ g.D.Device.log l.fn.device;
  inside : g.D.Device.inside l.device ≡ g.D.Device.inside l.fn.device;
  places : g.D.Device.places l.device ≡ g.D.Device.places l.fn.device;
}
