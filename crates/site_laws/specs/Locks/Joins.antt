-- No site joins an epoch twice, in whichever boot.
use Rattle.std.specs.Prelude.{ℕ, ◌≡◌, ◌≤◌, ◌+◌, ◌==◌, ◌⊎◌, cond, List, [], ◌∷◌}
use Rattle.locus_ids.specs.declared.ids.EpochId.{EpochId}
use Rattle.locus_ids.specs.declared.sites.Members.{Members}
use Rattle.trace_book.specs.declared.record.Record.{Record}
use Rattle.trace_book.specs.declared.record.Record.TheVariants as says
use Rattle.role_steps.specs.Views.{Told, Shown, boot_in}
use Rattle.the_run.specs.Joins.{IsJoin}
use Rattle.site_laws.specs.Vectors.Written.{WasTold}

-- ---- the law ----

abbrev pub WasJoined : List Told → ℕ → EpochId → Members → Type 0
WasJoined past s id m = WasTold (IsJoin s id m) past

abbrev pub FirstRecord : List Told → Record → Type 0
FirstRecord older (says.Join s id m) = (others : Members) → WasJoined older s id others → ⊥
FirstRecord older _ = Unit {0}

abbrev pub FirstJoin : List Told → Told → Type 0
FirstJoin older (Shown r) = FirstRecord older r
FirstJoin older _ = Unit {0}

-- each join is the first of its site under its id
abbrev pub JoinsAreOnce : List Told → Type 0
JoinsAreOnce [] = Unit {0}
JoinsAreOnce (x ∷ older) = FirstJoin older x × JoinsAreOnce older

-- ---- boots, by what was told ----

abbrev pub boot_record : ℕ → Record → ℕ → ℕ
boot_record s (says.Up t boot) now = cond (t == s) boot now
boot_record s _ now = now

abbrev pub boot_after : ℕ → Told → ℕ → ℕ
boot_after s (Shown r) now = boot_record s r now
boot_after s _ now = now

-- the boot number that the site had last; the first is 1
abbrev pub boot_told : ℕ → List Told → ℕ
boot_told s [] = 1
boot_told s (x ∷ older) = boot_after s x (boot_told s older)

-- the list of an epoch that a site joins in this boot has that boot of it, or none, where the site decided it in this boot
abbrev pub ListsBoot : ℕ → EpochId → Members → ℕ → Type 0
ListsBoot s id m boot = (boot_in m.boot s ≡ boot) ⊎ ((boot_in m.boot s ≡ 0) × (id.site ≡ s) × (id.boot ≡ boot))

abbrev pub BootRecord : List Told → Record → Type 0
BootRecord older (says.Join s id m) = ListsBoot s id m (boot_told s older)
BootRecord older (says.Up s boot) = boot_told s older + 1 ≤ boot
BootRecord older _ = Unit {0}

abbrev pub BootGoesOn : List Told → Told → Type 0
BootGoesOn older (Shown r) = BootRecord older r
BootGoesOn older _ = Unit {0}

-- boots rise, and each join is of a list with the boot of its site
abbrev pub BootsGoOn : List Told → Type 0
BootsGoOn [] = Unit {0}
BootsGoOn (x ∷ older) = BootGoesOn older x × BootsGoOn older
