-- What is told by the sites, the calls and the history is what the whole past tells.
use Rattle.std.proofs.Common.{◌≡◌, ℕ, Option, refl}
use Rattle.locus_ids.specs.declared.config.Config.{Config}
use Rattle.locus_ids.specs.declared.ids.FileId.{FileId}
use Rattle.locus_ids.specs.declared.ids.Mode.{Mode}
use Rattle.locus_ids.specs.declared.ids.Mode.TheVariants as mode
use Rattle.locus_ids.specs.declared.ids.Stamp.{Stamp}
use Rattle.locus_ids.specs.declared.refusal.Refusal.{Refusal}
use Rattle.promises.specs.Past.{CallSoFar, Epoch, Past, copies_in, held_in, kept_in}
use Rattle.promises.specs.Rows.{is_refused}
use Rattle.promises.specs.Tree.{is_placed, lacks_numbers, open_refusal}
use Rattle.audit_opens.specs.Once.{past_of}

module _ (c : Config) (p : Past) (t : Epoch) where
  abbrev pub known : Past
  known = past_of p.sites p.calls p.history

  pub kept_told : (f : FileId) → kept_in known t f ≡ kept_in p t f
  kept_told f = refl

  pub copies_told : (site : ℕ) → copies_in known t site ≡ copies_in p t site
  copies_told site = refl

  pub held_told : (site : ℕ) (f : FileId) → held_in known t site f ≡ held_in p t site f
  held_told site f = refl

  pub lacks_told : (group site : ℕ) → lacks_numbers c known t group site ≡ lacks_numbers c p t group site
  lacks_told group site = refl

  pub refusal_told : (k : CallSoFar) (m : Mode) (f : FileId) → open_refusal c known t k m f ≡ open_refusal c p t k m f
  refusal_told k mode.Read f = refl
  refusal_told k mode.Write f = refl
  refusal_told k mode.Resolve f = refl
  refusal_told k mode.Mend f = refl
  refusal_told k mode.Make f = refl

  pub placed_told : (k : CallSoFar) (m : Mode) (f : FileId) (stamp : Option Stamp) (ss : ℕ) → is_placed c known t k m f stamp ss ≡ is_placed c p t k m f stamp ss
  placed_told k mode.Read f stamp ss = refl
  placed_told k mode.Write f stamp ss = refl
  placed_told k mode.Resolve f stamp ss = refl
  placed_told k mode.Mend f stamp ss = refl
  placed_told k mode.Make f stamp ss = refl

  pub refused_told : (k : CallSoFar) (m : Mode) (f : FileId) (why : Refusal) → is_refused c known t m f why k ≡ is_refused c p t m f why k
  refused_told k mode.Read f why = refl
  refused_told k mode.Write f why = refl
  refused_told k mode.Resolve f why = refl
  refused_told k mode.Mend f why = refl
  refused_told k mode.Make f why = refl
