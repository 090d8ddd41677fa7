-- What stands of files, contents and answers stays when a line is told.
use Rattle.std.proofs.Common.{◌≡◌, ℕ, ◌==◌, Bool, true, false, cond, List, ◌∷◌, Option, None, Some, refl, sym, ◌∙◌, ap, ◌⊎◌, inl, inr}
use Rattle.std.specs.Option.{option_map}
use Rattle.role_steps.proofs.of_plain_facts.Numbers.{equal}
use Rattle.locus_ids.specs.declared.config.Config.{Config}
use Rattle.locus_ids.specs.declared.ids.CallId.{CallId}
use Rattle.locus_ids.specs.declared.ids.EpochId.{EpochId}
use Rattle.locus_ids.specs.declared.ids.FileId.{FileId}
use Rattle.locus_ids.specs.declared.ids.Kind.{Kind}
use Rattle.locus_ids.specs.declared.ids.Kind.TheVariants as kind
use Rattle.locus_ids.specs.declared.ids.Mode.TheVariants as mode
use Rattle.locus_ids.specs.declared.ids.Serial.{Serial}
use Rattle.locus_ids.specs.declared.ids.Stamp.{Stamp}
use Rattle.trace_book.specs.declared.call.Call.{Call}
use Rattle.trace_book.specs.declared.call.Call.TheVariants as call
use Rattle.trace_book.specs.declared.operation.What.{What}
use Rattle.trace_book.specs.declared.operation.What.TheVariants as what
use Rattle.dir_format.specs.declared.entry.Entry.{Entry}
use Rattle.dir_format.specs.Contents.{entries_of}
use Rattle.call_rules.specs.Walks.{root_of}
use Rattle.call_rules.specs.declared.answer.Answer.{Answer}
use Rattle.call_rules.specs.declared.answer.Answer.TheVariants as answer
use Rattle.call_rules.specs.declared.want.Want.{Want}
use Rattle.call_rules.specs.declared.want.Want.TheVariants as want
use Rattle.role_steps.specs.Views.{Told}
use Rattle.the_run.specs.Worlds.{Line}
use Rattle.tree_model.specs.declared.accepted.Waiting.{Waiting}
use Rattle.tree_model.specs.declared.instance.Granted.{Granted}
use Rattle.tree_model.specs.declared.instance.Instance.{Instance}
use Rattle.tree_model.specs.Files.{first_call, kind_made, kind_of_file, words_named}
use Rattle.tree_model.specs.Opening.{is_given_by}
use Rattle.lawful_trace.specs.TreeRows.{IsCallIn}
use Rattle.tree_laws.specs.Following.{IsFollowed, MayTell}
use Rattle.tree_laws.specs.Instances.{Stands}
use Rattle.tree_laws.specs.Past.{WasGranted, WasReleased}
use Rattle.tree_laws.specs.Printed.{entries}
use Rattle.tree_laws.proofs.Histories.{stands_more}
use Rattle.tree_laws.proofs.Origins.{kind_same}
use Rattle.tree_laws.proofs.Scripts as scripts
use Rattle.tree_laws.proofs.Scripts.{in_stays}
use Rattle.tree_laws.proofs.Orders.Lists.{all_then}
use Rattle.store_laws.proofs.Holdings.OneVersionHomes.{no_root}
use Rattle.rest_laws.specs.Fits.EntryEntries.{EntriesName, IsEntered, IsMail, MakesMessage, NamesFile}

abbrev pub With : ℕ → Told → List Line → List Line
With n x older = record { number = n; told = x } ∷ older

-- ---- files and contents ----

-- a file stands that is no directory
pub record IsPlain (c : Config) (t : List Line) (f : FileId) : Type 0 where
  pub stamp : Stamp
  pub stands : Stands c t f stamp
  pub kind_is : kind_of_file c (entries t) f ≡ kind.File

-- the content is one of a file that is no directory, or names files that stand
abbrev pub IsSound : Config → List Line → FileId → List ℕ → Type 0
IsSound c t f content = IsPlain c t f ⊎ EntriesName c t f.group content

-- the content of an open instance is sound, or of a message that is being made and may have been written
abbrev pub SoundAt : Config → List Line → Instance → Type 0
SoundAt c t x = IsSound c t x.grant.file x.work.content ⊎ MakesMessage t x.grant

-- a mail makes no directory
pub mail_kind : (words : Call) → IsMail words → kind_made (Some words) ≡ kind.File
mail_kind (call.Mail path bytes) k = refl
mail_kind _ k = absurd k

-- nor is a message a root, or of another kind than its call makes, where nobody else was the first to commit it
pub message_kind : (c : Config) (t : List Line) (g : Granted) → is_given_by g.ss g.file.ino ≡ true → MakesMessage t g → (first_call c (entries t) g.file ≡ None) ⊎ (first_call c (entries t) g.file ≡ Some g.call) → kind_of_file c (entries t) g.file ≡ kind.File
message_kind c t g given m who = ap (λ (b : Bool). cond b kind.Dir (kind_made (words_named (entries t) (first_call c (entries t) g.file)))) (not_root (g.file.ino == 1) refl) ∙ over who
  where
    not_root : (b : Bool) → (g.file.ino == 1) ≡ b → (g.file.ino == 1) ≡ false
    not_root false k = k
    not_root true k = absurd (no_root g.ss g.file.ino given (equal g.file.ino 1 k))

    over : (first_call c (entries t) g.file ≡ None) ⊎ (first_call c (entries t) g.file ≡ Some g.call) → kind_made (words_named (entries t) (first_call c (entries t) g.file)) ≡ kind.File
    over (inl q) = ap (λ (o : Option CallId). kind_made (words_named (entries t) o)) q
    over (inr q) = ap (λ (o : Option CallId). kind_made (words_named (entries t) o)) q ∙ (ap (λ (o : Option Waiting). kind_made (option_map (λ (v : Waiting). v.words) o)) m.named ∙ mail_kind m.caller.words m.mails)

-- the file is known to be of this kind
abbrev pub IsKnown : Config → List Line → FileId → Kind → Type 0
IsKnown c t f kind.Dir = kind_of_file c (entries t) f ≡ kind.Dir
IsKnown c t f kind.File = IsPlain c t f

pub named_known : (c : Config) (t : List Line) (group ino : ℕ) (k : Kind) → NamesFile c t group ino k → IsKnown c t (record { group = group; ino = ino }) k
named_known c t group ino kind.Dir n = sym n.kind_is
named_known c t group ino kind.File n = record { stamp = n.stamp; stands = n.stands; kind_is = sym n.kind_is }

pub roots_known : (c : Config) (t : List Line) (g : ℕ) → IsKnown c t (root_of g) kind.Dir
roots_known c t g = refl

pub dir_file : (k : Kind) → k ≡ kind.Dir → k ≡ kind.File → ⊥
dir_file k a b = over (sym a ∙ b)
  where
    over : kind.Dir ≡ kind.File → ⊥
    over e = cc

-- a directory's content names files that stand
pub dir_sound : (c : Config) (t : List Line) (f : FileId) (content : List ℕ) → kind_of_file c (entries t) f ≡ kind.Dir → IsSound c t f content → EntriesName c t f.group content
dir_sound c t f content dir (inl plain) = absurd (dir_file (kind_of_file c (entries t) f) dir plain.kind_is)
dir_sound c t f content dir (inr named) = named

-- ---- answers ----

-- a make of the call was granted in its epoch
pub record WasMade (t : List Line) (d : CallId) (group : ℕ) (i : Serial) (ino : ℕ) : Type 0 where
  pub epoch : EpochId
  pub inside : IsCallIn (entries t) epoch d
  pub request : ℕ
  pub stamp : Option Stamp
  pub ss : ℕ
  pub was_granted : WasGranted t epoch d request i mode.Make (record { group = group; ino = ino }) stamp ss

pub record WasEnded (t : List Line) (d : CallId) (i : Serial) : Type 0 where
  pub epoch : EpochId
  pub inside : IsCallIn (entries t) epoch d
  pub was_released : WasReleased t epoch i

-- a component that was entered is a file that stands, of its kind
abbrev pub LookAnswered : Config → List Line → FileId → What → Answer → Type 0
LookAnswered c t f (what.Name component) (answer.Entered ino k) = NamesFile c t f.group ino k
LookAnswered c t f _ _ = Unit {0}

abbrev pub MakeAnswered : List Line → CallId → ℕ → Answer → Type 0
MakeAnswered t d group (answer.Opened i ino) = WasMade t d group i ino
MakeAnswered t d group _ = Unit {0}

abbrev pub CloseAnswered : List Line → CallId → Serial → Answer → Type 0
CloseAnswered t d i (answer.Ended stamp) = WasEnded t d i
CloseAnswered t d i _ = Unit {0}

-- what a call was answered stands in the trace
abbrev pub IsAnswered : Config → List Line → CallId → Want → Answer → Type 0
IsAnswered c t d (want.Look f w) a = LookAnswered c t f w a
IsAnswered c t d (want.Make group k sites) a = MakeAnswered t d group a
IsAnswered c t d (want.Close i) a = CloseAnswered t d i a
IsAnswered c t d (want.Give r) a = ⊥
IsAnswered c t d want.Never a = ⊥
IsAnswered c t d _ a = Unit {0}

-- ---- one line later ----

module _ (c : Config) (n : ℕ) (x : Told) (older : List Line) (h : IsFollowed c older) (may : MayTell c older x) where
  pub named_stays : (group ino : ℕ) (k : Kind) → NamesFile c older group ino k → NamesFile c (With n x older) group ino k
  named_stays group ino k m = record {
    stamp = m.stamp;
    stands = stands_more c n x older (record { group = group; ino = ino }) m.stamp m.stands;
    kind_is = m.kind_is ∙ sym (kind_same c n x older (record { group = group; ino = ino }) m.stamp h may m.stands);
  }

  pub entered_stays : (group ino : ℕ) (k : Kind) → IsEntered c older group ino k → IsEntered c (With n x older) group ino k
  entered_stays group ino k m = record { file = named_stays group ino k m.file; inserted = inr m.inserted }

  pub plain_stays : (f : FileId) → IsPlain c older f → IsPlain c (With n x older) f
  plain_stays f p = record { stamp = p.stamp; stands = stands_more c n x older f p.stamp p.stands; kind_is = kind_same c n x older f p.stamp h may p.stands ∙ p.kind_is }

  pub sound_stays : (f : FileId) (content : List ℕ) → IsSound c older f content → IsSound c (With n x older) f content
  sound_stays f content (inl p) = inl (plain_stays f p)
  sound_stays f content (inr m) = inr (all_then (λ (d : Entry). IsEntered c older f.group d.ino d.kind) (λ (d : Entry). IsEntered c (With n x older) f.group d.ino d.kind) (λ d k. entered_stays f.group d.ino d.kind k) (entries_of content) m)

  pub makes_stay : (g : Granted) → MakesMessage older g → MakesMessage (With n x older) g
  makes_stay g m = record { mode_is = m.mode_is; caller = m.caller; named = scripts.named_stays c n x older g.call h may (m.caller, m.named) ∙ m.named; mails = m.mails }

  pub sound_at_stays : (y : Instance) → SoundAt c older y → SoundAt c (With n x older) y
  sound_at_stays y (inl k) = inl (sound_stays y.grant.file y.work.content k)
  sound_at_stays y (inr m) = inr (makes_stay y.grant m)

  look_stays : (f : FileId) (w : What) (a : Answer) → LookAnswered c older f w a → LookAnswered c (With n x older) f w a
  look_stays f (what.Name component) (answer.Entered ino k) q = named_stays f.group ino k q
  look_stays f _ _ q = tt

  make_stays : (d : CallId) (group : ℕ) (a : Answer) → MakeAnswered older d group a → MakeAnswered (With n x older) d group a
  make_stays d group (answer.Opened i ino) q = record { epoch = q.epoch; inside = in_stays c n x older q.epoch d h may q.inside; request = q.request; stamp = q.stamp; ss = q.ss; was_granted = inr q.was_granted }
  make_stays d group _ q = tt

  close_stays : (d : CallId) (i : Serial) (a : Answer) → CloseAnswered older d i a → CloseAnswered (With n x older) d i a
  close_stays d i (answer.Ended stamp) q = record { epoch = q.epoch; inside = in_stays c n x older q.epoch d h may q.inside; was_released = inr q.was_released }
  close_stays d i _ q = tt

  pub answered_stays : (d : CallId) (w : Want) (a : Answer) → IsAnswered c older d w a → IsAnswered c (With n x older) d w a
  answered_stays d (want.Look f w) a q = look_stays f w a q
  answered_stays d (want.Make group k sites) a q = make_stays d group a q
  answered_stays d (want.Close i) a q = close_stays d i a q
  answered_stays d (want.Give r) a q = q
  answered_stays d want.Never a q = q
  answered_stays d _ a q = tt
