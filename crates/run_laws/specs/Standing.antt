-- How a site stands among epochs, by what it has told since its boot, and which of its promises, joins and leaves are lawful.
use Rattle.std.specs.Prelude.{ℕ, ◌≡◌, ◌==◌, Bool, true, false, cond, List, [], ◌∷◌, ◌++◌, Option, Some, None}
use Rattle.locus_ids.specs.declared.ids.EpochId.{EpochId}
use Rattle.locus_ids.specs.declared.sites.Members.{Members}
use Rattle.trace_book.specs.declared.record.Record.{Record}
use Rattle.trace_book.specs.declared.record.Record.TheVariants as says
use Rattle.the_run.specs.of_role_steps.Epochs.{is_epoch_below}
use Rattle.the_run.specs.of_role_steps.Views.{SiteView, Told, Shown, Promises}
use Rattle.the_run.specs.Steps.{epoch_id}
use Rattle.the_run.specs.Worlds.{Line, no_epoch}

pub record Standing : Type 0 where
  pub promised : EpochId  -- promised last
  pub installed : Bool  -- that id was joined, or none was promised
  pub epoch : Option EpochId  -- joined and not left

-- a booted site has promised nothing
abbrev pub nowhere : Standing
nowhere = record { promised = no_epoch; installed = true; epoch = None }

-- ---- what a site tells, as it changes how it stands ----

abbrev pub after_record : ℕ → Record → Standing → Standing
after_record s (says.Up t boot) now = cond (t == s) nowhere now
after_record s (says.Join t id members) now = cond (t == s) (record { promised = now.promised; installed = true; epoch = Some id }) now
after_record s (says.Leave t id) now = cond (t == s) (record { promised = now.promised; installed = now.installed; epoch = None }) now
after_record s _ now = now

abbrev pub after_told : ℕ → Told → Standing → Standing
after_told s (Shown r) now = after_record s r now
after_told s (Promises t id reach) now = cond (t == s) (record { promised = id; installed = false; epoch = now.epoch }) now
after_told s _ now = now

-- how the site stands after this trace, whose newest line comes first
abbrev pub standing : ℕ → List Line → Standing
standing s [] = nowhere
standing s (x ∷ older) = after_told s x.told (standing s older)

-- ---- the law ----

-- in no epoch, a site promises an id above the one that it promised last
abbrev pub MayPromise : Standing → EpochId → Type 0
MayPromise now id = (is_epoch_below now.promised id ≡ true) × (now.epoch ≡ None)

-- in no epoch, it joins the id that it promised last and hasn't joined
abbrev pub MayJoin : Standing → EpochId → Type 0
MayJoin now id = (now.promised ≡ id) × (now.installed ≡ false) × (now.epoch ≡ None)

-- it leaves the epoch that it is in
abbrev pub MayLeave : Standing → EpochId → Type 0
MayLeave now id = now.epoch ≡ Some id

abbrev pub RecordGoesOn : Record → List Line → Type 0
RecordGoesOn (says.Join s id members) older = MayJoin (standing s older) id
RecordGoesOn (says.Leave s id) older = MayLeave (standing s older) id
RecordGoesOn _ older = Unit {0}

abbrev pub GoesOn : Told → List Line → Type 0
GoesOn (Shown r) older = RecordGoesOn r older
GoesOn (Promises s id reach) older = MayPromise (standing s older) id
GoesOn _ older = Unit {0}

-- each promise, join and leave is lawful after the lines before it
abbrev pub EpochsGoOn : List Line → Type 0
EpochsGoOn [] = Unit {0}
EpochsGoOn (x ∷ older) = GoesOn x.told older × EpochsGoOn older

-- ---- two joins in one boot ----

abbrev pub IsUp : ℕ → Told → Type 0
IsUp s (Shown (says.Up t boot)) = t ≡ s
IsUp s _ = ⊥

-- the site doesn't boot in these lines
abbrev pub StaysUp : ℕ → List Line → Type 0
StaysUp s [] = Unit {0}
StaysUp s (x ∷ xs) = (IsUp s x.told → ⊥) × StaysUp s xs

abbrev pub joins_line : ℕ → ℕ → EpochId → Members → Line
joins_line n s id members = record { number = n; told = Shown (says.Join s id members) }

-- of two joins of a site in one boot the later one is of a greater id
abbrev pub JoinsRise : List Line → Type 0
JoinsRise trace =
    (s j k : ℕ) (later id : EpochId) (members others : Members) (newer between older : List Line) →
    trace ≡ newer ++ joins_line k s later members ∷ (between ++ joins_line j s id others ∷ older) → StaysUp s between → is_epoch_below id later ≡ true

-- ---- the view of a site, and what an outcome tells ----

-- a view, as its site stands
abbrev pub standing_of : SiteView → Standing
standing_of v = record { promised = v.promised; installed = v.installed; epoch = epoch_id v.epoch }

abbrev pub moves : ℕ → List Told → Standing → Standing
moves s [] now = now
moves s (x ∷ xs) now = moves s xs (after_told s x now)

-- the site tells its own moves alone, and each is lawful
abbrev pub OwnRecord : ℕ → Standing → Record → Type 0
OwnRecord s now (says.Up t boot) = t ≡ s
OwnRecord s now (says.Join t id members) = (t ≡ s) × MayJoin now id
OwnRecord s now (says.Leave t id) = (t ≡ s) × MayLeave now id
OwnRecord s now _ = Unit {0}

abbrev pub OwnMove : ℕ → Standing → Told → Type 0
OwnMove s now (Shown r) = OwnRecord s now r
OwnMove s now (Promises t id reach) = (t ≡ s) × MayPromise now id
OwnMove s now _ = Unit {0}

abbrev pub OwnMoves : ℕ → Standing → List Told → Type 0
OwnMoves s now [] = Unit {0}
OwnMoves s now (x ∷ xs) = OwnMove s now x × OwnMoves s (after_told s x now) xs
