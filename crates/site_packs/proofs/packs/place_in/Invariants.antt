use Rattle.std.proofs.Common.{◌≡◌, drop}
use Rattle.site_packs.specs.Packs.{pack_in}
use Rattle.site_packs.proofs.packs.place_in.Given as goal

abbrev pub invariant-loop-i : goal.invariant-loop-i
invariant-loop-i l = pack_in l.group (drop l.i l.packs) ≡ pack_in l.group l.packs
