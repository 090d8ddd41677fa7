-- What stays of a site while others tell what they do, and over all lines of an event.
use Rattle.std.proofs.Common.{◌≡◌, ℕ, ◌==◌, Bool, true, false, cond, not, ◌&&◌, ◌||◌, List, [], ◌∷◌, Some, None, refl, sym, ◌∙◌}
use Rattle.role_steps.proofs.of_plain_facts.Numbers.{equal}
use Rattle.locus_ids.specs.declared.config.Config.{Config}
use Rattle.trace_book.specs.declared.record.Record.{Record}
use Rattle.trace_book.specs.declared.record.Record.TheVariants as says
use Rattle.role_steps.specs.Own.{Every}
use Rattle.role_steps.specs.Views.{Frame, Told, Shown, Takes}
use Rattle.the_run.specs.Worlds.{Line, told_onto}
use Rattle.tree_model.specs.declared.accepted.Waiting.{Waiting}
use Rattle.tree_model.specs.Calls.{waiting}
use Rattle.tree_model.specs.Epochs.{boot_of, epoch_of, is_up, members_of}
use Rattle.tree_model.specs.Folds.{Trace}
use Rattle.tree_laws.specs.Doing.{AllTold, FrameFact, IsOfUsers, IsOfSite, IsUsersRecord, IsSiteRecord}
use Rattle.tree_laws.specs.Printed.{entries}
use Rattle.tree_laws.specs.Users.{had}
use Rattle.tree_laws.proofs.Boots.{every_filter}
use Rattle.tree_laws.proofs.Fresh.{epoch_listed}
use Rattle.tree_laws.proofs.Scripts.{members_same}
use Rattle.store_laws.specs.OneTree.Places.{AllAt, IsIdle}
use Rattle.store_laws.specs.OneTree.Rest.{AllRest, Past, Comes, more}
use Rattle.store_laws.proofs.OneTree.Composing.{past_more}

-- ---- records of other sites ----

cond_apart : {A : Type 0} (s t : ℕ) (x y : A) → (s ≡ t → ⊥) → cond (s == t) x y ≡ y
cond_apart s t x y h = over (s == t) (equal s t)
  where
    over : (b : Bool) → (b ≡ true → s ≡ t) → cond b x y ≡ y
    over true k = absurd (h (k refl))
    over false k = refl

or_apart : (s t : ℕ) (y : Bool) → (s ≡ t → ⊥) → ((s == t) || y) ≡ y
or_apart s t y h = over (s == t) (equal s t)
  where
    over : (b : Bool) → (b ≡ true → s ≡ t) → (b || y) ≡ y
    over true k = absurd (h (k refl))
    over false k = refl

and_apart : (s t : ℕ) (y : Bool) → (s ≡ t → ⊥) → (not (s == t) && y) ≡ y
and_apart s t y h = over (s == t) (equal s t)
  where
    over : (b : Bool) → (b ≡ true → s ≡ t) → (not b && y) ≡ y
    over true k = absurd (h (k refl))
    over false k = refl

abbrev With : ℕ → Record → Trace → Trace
With n r before = record { line = n; what = r } ∷ before

pub epoch_same : (n : ℕ) (r : Record) (before : Trace) (me : ℕ) → (IsSiteRecord me r → ⊥) → epoch_of (With n r before) me ≡ epoch_of before me
epoch_same n (says.Join s e members) before me h = cond_apart s me (Some e) (epoch_of before me) h
epoch_same n (says.Leave s e) before me h = cond_apart s me None (epoch_of before me) h
epoch_same n (says.Stopped s cause) before me h = cond_apart s me None (epoch_of before me) h
epoch_same n (says.Up s boot) before me h = cond_apart s me None (epoch_of before me) h
epoch_same n _ before me h = refl

pub boot_same : (n : ℕ) (r : Record) (before : Trace) (me : ℕ) → (IsSiteRecord me r → ⊥) → boot_of (With n r before) me ≡ boot_of before me
boot_same n (says.Up s boot) before me h = cond_apart s me boot (boot_of before me) h
boot_same n _ before me h = refl

pub up_same : (c : Config) (n : ℕ) (r : Record) (before : Trace) (me : ℕ) → (IsSiteRecord me r → ⊥) → is_up c (With n r before) me ≡ is_up c before me
up_same c n (says.Up s boot) before me h = or_apart s me (is_up c before me) h
up_same c n (says.Stopped s cause) before me h = and_apart s me (is_up c before me) h
up_same c n _ before me h = refl

-- ---- the frame ----

pub frame_by : (c : Config) (old new : List Line) (f : Frame) → epoch_of (entries new) f.me ≡ epoch_of (entries old) f.me → members_of (entries new) f.epoch ≡ members_of (entries old) f.epoch → boot_of (entries new) f.me ≡ boot_of (entries old) f.me → is_up c (entries new) f.me ≡ is_up c (entries old) f.me →
    FrameFact c old f → FrameFact c new f
frame_by c old new f e m b u h = record { config_is = h.config_is; inside = e ∙ h.inside; members_are = m ∙ h.members_are; up = u ∙ h.up; boot_is = h.boot_is ∙ sym b; is_member = h.is_member }

pub frame_stays : (c : Config) (n : ℕ) (x : Told) (older : List Line) (f : Frame) → Comes c older x → (IsOfSite f.me x → ⊥) → FrameFact c older f → FrameFact c (more n x older) f
frame_stays c n (Shown r) older f k other h =
    frame_by c older (more n (Shown r) older) f (epoch_same n r (entries older) f.me other) (members_same c n r (entries older) f.epoch k.may.row (epoch_listed older f.me f.epoch h.inside))
    (boot_same n r (entries older) f.me other) (up_same c n r (entries older) f.me other) h
frame_stays c n _ older f k other h = record { config_is = h.config_is; inside = h.inside; members_are = h.members_are; up = h.up; boot_is = h.boot_is; is_member = h.is_member }

-- ---- a site at which nobody waits ----

abbrev NotAt : ℕ → Waiting → Type 0
NotAt me w = w.site ≡ me → ⊥

waits_same : (n : ℕ) (r : Record) (before : Trace) (me : ℕ) → (IsUsersRecord me r → ⊥) → Every (NotAt me) (waiting before) → Every (NotAt me) (waiting (With n r before))
waits_same n (says.Accept s process call words) before me h k = (h, k)
waits_same n (says.Answer s process call reply) before me h k = every_filter (NotAt me) _ (waiting before) k
waits_same n (says.Stopped s cause) before me h k = every_filter (NotAt me) _ (waiting before) k
waits_same n _ before me h k = k

had_same : (c : Config) (n : ℕ) (r : Record) (older : List Line) (me : ℕ) → (IsSiteRecord me r → ⊥) → had c (more n (Shown r) older) me ≡ had c older me
had_same c n (says.Leave s e) older me h = cond_apart s me [] (had c older me) h
had_same c n (says.Stopped s cause) older me h = cond_apart s me [] (had c older me) h
had_same c n (says.Up s boot) older me h = cond_apart s me [] (had c older me) h
had_same c n _ older me h = refl

had_told_same : (c : Config) (n : ℕ) (x : Told) (older : List Line) (me : ℕ) → (IsOfUsers me x → ⊥) → (IsOfSite me x → ⊥) → had c (more n x older) me ≡ had c older me
had_told_same c n (Shown r) older me u h = had_same c n r older me h
had_told_same c n (Takes s d request times a) older me u h = cond_apart s me _ (had c older me) u
had_told_same c n _ older me u h = refl

pub idle_stays : (c : Config) (n : ℕ) (x : Told) (older : List Line) (me : ℕ) → (IsOfUsers me x → ⊥) → (IsOfSite me x → ⊥) → IsIdle c older me → IsIdle c (more n x older) me
idle_stays c n x older me u h k = record { none_waits = none x u; has_none = had_told_same c n x older me u h ∙ k.has_none }
  where
    none : (y : Told) → (IsOfUsers me y → ⊥) → Every (NotAt me) (waiting (entries (more n y older)))
    none (Shown r) other = waits_same n r (entries older) me other k.none_waits
    none _ other = k.none_waits

-- ---- over all lines of an event ----

pub stay_over : (c : Config) (n : ℕ) (Q : List Line → Told → Type 0) (P : List Line → Type 0) → ((x : Told) (older : List Line) → Comes c older x → Q older x → P older → P (more n x older)) →
    (told : List Told) (trace : List Line) → Past c trace → AllTold c n trace told → AllRest c n trace told → AllAt Q n trace told → P trace → P (told_onto n told trace)
stay_over c n Q P s [] trace h k fresh q p = p
stay_over c n Q P s (x ∷ xs) trace h k fresh q p = stay_over c n Q P s xs (more n x trace) (past_more c n x trace h k.0 fresh.0) k.1 fresh.1 q.1 (s x trace (record { past = h; may = k.0; rest = fresh.0 }) q.0 p)

pub every_at : (n : ℕ) (Q : Told → Type 0) (R : List Line → Told → Type 0) → ((x : Told) (t : List Line) → Q x → R t x) → (told : List Told) (trace : List Line) → Every Q told → AllAt R n trace told
every_at n Q R f [] trace h = tt
every_at n Q R f (x ∷ xs) trace h = (f x trace h.0, every_at n Q R f xs (more n x trace) h.1)

-- what holds of each line before the event holds of it at its time, where it stays
pub kept_at : (n : ℕ) (R : List Line → Told → Type 0) → ((x : Told) (y : Line) (t : List Line) → R t x → R (y ∷ t) x) → (told : List Told) (trace : List Line) → Every (R trace) told → AllAt R n trace told
kept_at n R f [] trace h = tt
kept_at n R f (x ∷ xs) trace h = (h.0, kept_at n R f xs (more n x trace) (later xs h.1))
  where
    later : (ys : List Told) → Every (R trace) ys → Every (R (more n x trace)) ys
    later [] k = tt
    later (y ∷ ys) k = (f y _ trace k.0, later ys k.1)

pub at_weaker : (n : ℕ) (Q R : List Line → Told → Type 0) → ((x : Told) (t : List Line) → Q t x → R t x) → (told : List Told) (trace : List Line) → AllAt Q n trace told → AllAt R n trace told
at_weaker n Q R f [] trace h = tt
at_weaker n Q R f (x ∷ xs) trace h = (f x trace h.0, at_weaker n Q R f xs (more n x trace) h.1)

pub frame_over : (c : Config) (n : ℕ) (f : Frame) (told : List Told) (trace : List Line) → Past c trace → AllTold c n trace told → AllRest c n trace told → AllAt (λ t x. IsOfSite f.me x → ⊥) n trace told → FrameFact c trace f → FrameFact c (told_onto n told trace) f
frame_over c n f told trace h k fresh q fact = stay_over c n (λ t x. IsOfSite f.me x → ⊥) (λ t. FrameFact c t f) (λ x older comes no p. frame_stays c n x older f comes no p) told trace h k fresh q fact
