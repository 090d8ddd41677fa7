-- What a call of the role meets that may be none of the format: where this is of it, the call isn't refused as unfit.
use Rattle.std.specs.Prelude.{◌≡◌, ℕ, ◌≤◌, true, List, Option, None, Some}
use Rattle.locus_ids.specs.Sizes.{sites_max}
use Rattle.locus_ids.specs.declared.ids.Serial.{Serial}
use Rattle.trace_book.specs.declared.operation.Op.{Op}
use Rattle.role_steps.specs.Views.{Frame, Store}
use Rattle.role_steps.specs.OperationEffects.{Mending}
use Rattle.role_steps.specs.Storage.{StoreRequest, instance_of}
use Rattle.role_steps.specs.declared.copies.FileCopy.{FileCopy}
use Rattle.role_steps.specs.declared.instances.Instance.{Instance}
use Rattle.store_instances.specs.Fitting.{CanClose, CanOperate}
use Rattle.store_instances.specs.Stores.{is_make}

-- the operation asks for nothing where there is no instance
abbrev pub CanOperateOf : Frame → Mending → List ℕ → List FileCopy → ℕ → Op → Option Instance → Type 0
CanOperateOf f m groups copies n o None = Unit {0}
CanOperateOf f m groups copies n o (Some i) = CanOperate f m groups copies i i.stage n o

-- an operation of this number on the instance of this name, at a site with packs of these groups
abbrev pub CanOperateAt : Frame → Mending → List ℕ → Serial → ℕ → Op → Store → Type 0
CanOperateAt f m groups inst n o s = CanOperateOf f m groups s.copies n o (instance_of s inst)

-- nor does the close
abbrev pub CanCloseOf : Frame → List ℕ → List FileCopy → Option Instance → Type 0
CanCloseOf f groups copies None = Unit {0}
CanCloseOf f groups copies (Some i) = CanClose f groups copies i i.stage

-- a close of the instance of this name
abbrev pub CanCloseAt : Frame → List ℕ → Serial → Store → Type 0
CanCloseAt f groups inst s = CanCloseOf f groups s.copies (instance_of s inst)

-- an open is of a site, and where it makes a file the packs of this site are those of the site that serves it
pub record CanOpen (f : Frame) (home : ℕ) (asked : StoreRequest) : Type 0 where
  pub low : 1 ≤ asked.inst.us
  pub high : asked.inst.us ≤ sites_max
  pub own : is_make asked.mode ≡ true → home ≡ f.me
