use Rattle.std.proofs.Common.{ℕ, List, sym, refl, inl, subst}
use Rattle.stored_versions.specs.Versions.{AgreesWith}
use Rattle.pack_slots.proofs.New.{root_is_slot}
use Rattle.disk_tests.proofs.packs.unchanged_file.Goals as goal

pub returns : goal.returns
returns c n most = record {
  some = c.requires.some;
  most = most;
  named = inl (refl, refl);
  agrees = subst (λ (v : List ℕ). AgreesWith (record { site = 0; n = 0 }) v) (sym c.zero.ensures) (root_is_slot c.args.set c.requires.some c.requires.sites).vector;
}
