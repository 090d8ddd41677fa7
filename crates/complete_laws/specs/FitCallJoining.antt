-- What is premised of a site: the packs that it has, and the contents that a mend joins.
use Rattle.std.specs.Prelude.{ℕ, ◌≡◌, true, List, [], ◌∷◌}
use Rattle.locus_ids.specs.declared.config.Config.{Config}
use Rattle.locus_ids.specs.declared.ids.Serial.{Serial}
use Rattle.trace_book.specs.declared.operation.Op.{Op}
use Rattle.trace_book.specs.declared.operation.Op.TheVariants as op
use Rattle.wire_messages.specs.declared.body.Body.{Body}
use Rattle.wire_messages.specs.declared.body.Body.TheVariants as body
use Rattle.packet_laws.specs.of_operation_effects.Joinable.{AreJoinable}
use Rattle.dir_format.specs.Contents.{entries_of}
use Rattle.dir_reconcile.specs.Joins.{AgreeOnKinds}
use Rattle.role_steps.specs.Mends.{mending}
use Rattle.role_steps.specs.OperationEffects.{Mending, joined_contents}
use Rattle.role_steps.specs.Storage.{instance_of}
use Rattle.role_steps.specs.Views.{SiteView}
use Rattle.the_run.specs.Steps.{from_user, group_of}
use Rattle.packet_laws.specs.of_site_laws.Packs.Packs.{HasPack}
use Rattle.site_node.specs.of_site_packs.Packs.{has_group}

-- the site has the packs that the cluster gives it
abbrev pub HasGroups : Config → ℕ → List ℕ → Type 0
HasGroups c site groups = (g : ℕ) → HasPack c g site → has_group groups g ≡ true

abbrev pub JoinsIf : Mending → Op → Type 0
JoinsIf m op.Mend = AreJoinable m.contents
JoinsIf m _ = Unit {0}

-- a mend works on contents that can be joined
abbrev pub JoinsIfMend : (Serial → Mending) → ℕ → Body → Type 0
JoinsIfMend m from (body.Op serial n o seen) = JoinsIf (m (from_user from serial)) o
JoinsIfMend m from _ = Unit {0}

-- an inode that several of the contents have has one kind
abbrev pub KindsAgree : List (List ℕ) → Type 0
KindsAgree [] = Unit {0}
KindsAgree (x ∷ xs) = AgreeOnKinds (entries_of x) (joined_contents xs) × KindsAgree xs

abbrev pub KindsIf : Mending → Op → Type 0
KindsIf m op.Mend = KindsAgree m.contents
KindsIf m _ = Unit {0}

-- so it is with the contents that a mend joins at its site
abbrev pub KindsIfMend : SiteView → ℕ → Body → Type 0
KindsIfMend v from (body.Op serial n o seen) = KindsIf (mending v (group_of (instance_of v.store (from_user from serial)))) o
KindsIfMend v from _ = Unit {0}
