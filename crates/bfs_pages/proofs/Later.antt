-- Counts of what lies below, after two calls.
use Rattle.std.proofs.Common.{◌∙◌, arith}
use Rattle.bfs_txn.specs.Faults.{Counts, AreLater}

pub later-twice : {a b c : Counts} → AreLater a b → AreLater b c → AreLater a c
later-twice h g = record {
  faults = omega (arith, h.faults, g.faults);
  stops = g.stops ∙ h.stops;
  stop = g.stop ∙ h.stop;
}
