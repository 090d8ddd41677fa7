-- What an open was granted as: that of a mend to mend its directory, any other not; and its group has started.
use Rattle.std.proofs.Common.{◌≡◌, ◌==◌, ℕ, Bool, true, false, not, cond, ◌&&◌, List, [], ◌∷◌, Option, Some, None, refl, sym, ◌∙◌, subst, inl, inr}
use Rattle.std.specs.Option.{is_none}
use Rattle.role_steps.proofs.of_plain_facts.Tests.{and_first, and_second, true_false}
use Rattle.locus_ids.specs.declared.config.Config.{Config}
use Rattle.locus_ids.specs.declared.ids.CallId.{CallId}
use Rattle.locus_ids.specs.declared.ids.EpochId.{EpochId}
use Rattle.locus_ids.specs.declared.ids.FileId.{FileId}
use Rattle.locus_ids.specs.declared.ids.Mode.{Mode}
use Rattle.locus_ids.specs.declared.ids.Mode.TheVariants as mode
use Rattle.locus_ids.specs.declared.ids.Serial.{Serial}
use Rattle.locus_ids.specs.declared.ids.Stamp.{Stamp}
use Rattle.locus_ids.specs.declared.refusal.Refusal.{Refusal}
use Rattle.locus_ids.specs.declared.refusal.Refusal.TheVariants as refusal
use Rattle.trace_book.specs.declared.call.Call.{Call}
use Rattle.trace_book.specs.declared.call.Call.TheVariants as call
use Rattle.trace_book.specs.declared.descriptor.Beginning.{Beginning}
use Rattle.trace_book.specs.declared.descriptor.Beginning.TheVariants as begins
use Rattle.trace_book.specs.declared.record.Record.TheVariants as says
use Rattle.trace_book.specs.declared.reply.Reply.TheVariants as reply
use Rattle.call_rules.specs.Closing.{Unchanged, give_up}
use Rattle.call_rules.specs.Mending.{after_mend, brings, mend_wants}
use Rattle.call_rules.specs.Opening.{close_wants}
use Rattle.call_rules.specs.Scripts.{begun_wants, where_packed}
use Rattle.call_rules.specs.Descriptors.{lowest_free}
use Rattle.call_rules.specs.declared.answer.Answer.TheVariants as answer
use Rattle.call_rules.specs.declared.want.Want.{Want}
use Rattle.call_rules.specs.declared.want.Want.TheVariants as want
use Rattle.role_steps.specs.Views.{Told, Shown}
use Rattle.tree_laws.specs.of_the_run.Worlds.{Line}
use Rattle.tree_model.specs.declared.accepted.Waiting.{Waiting}
use Rattle.tree_model.specs.Calls.{call_named}
use Rattle.tree_model.specs.Folds.{Trace}
use Rattle.tree_model.specs.Given.{gives_grant}
use Rattle.tree_model.specs.Histories.{history}
use Rattle.tree_model.specs.Opening.{is_only, is_placed, open_refusal}
use Rattle.tree_model.specs.State.{TreeState, is_granted, kept_of}
use Rattle.tree_model.specs.Tree.{tree_of}
use Rattle.commit_graph.specs.declared.history.Version.{Version}
use Rattle.tree_laws.specs.of_lawful_trace.Progress.{Answers, answers, is_packed_in, wants_as}
use Rattle.tree_laws.specs.of_lawful_trace.Tables.{begun, descriptor}
use Rattle.tree_laws.specs.of_lawful_trace.TreeRows.{is_open_of}
use Rattle.tree_laws.specs.Printed.{entries}
use Rattle.tree_laws.specs.Following.{IsFollowed, MayTell}
use Rattle.tree_laws.specs.Instances.{IsStarted}
use Rattle.tree_laws.specs.Past.{GrantRecord, Printed, WasGranted}
use Rattle.tree_laws.specs.Processes.{IsMend}
use Rattle.tree_laws.proofs.Kinship.{started_stays}
use Rattle.tree_laws.proofs.Scripts.{named_stays}
use Rattle.store_laws.proofs.Holdings.MendMends.{mend_opened}

abbrev With : ℕ → Told → List Line → List Line
With n x older = record { number = n; told = x } ∷ older

-- ---- what a mend opens ----

-- it opens nothing, but to mend
abbrev OpensToMend : Want → Type 0
OpensToMend (want.Open f how) = ⊥
OpensToMend (want.Make group kind sites) = ⊥
OpensToMend _ = Unit {0}

gives_up : (i : Serial) (why : Refusal) (xs : Answers) → OpensToMend (give_up (Unchanged i ∷ []) why xs)
gives_up i why [] = tt
gives_up i why (answer.Ended stamp ∷ []) = tt
gives_up i why (answer.Ended stamp ∷ (x ∷ xs)) = tt
gives_up i why (answer.Refused reason ∷ []) = tt
gives_up i why (answer.Refused reason ∷ (x ∷ xs)) = tt
gives_up i why (_ ∷ xs) = tt

closes_it : (i : Serial) (xs : Answers) → OpensToMend (close_wants i xs)
closes_it i [] = tt
closes_it i (answer.Ended stamp ∷ []) = tt
closes_it i (answer.Refused why ∷ []) = tt
closes_it i (answer.Ended stamp ∷ (x ∷ xs)) = tt
closes_it i (answer.Refused why ∷ (x ∷ xs)) = tt
closes_it i (_ ∷ xs) = tt

mends_it : (i : Serial) (xs : Answers) → OpensToMend (after_mend i xs)
mends_it i [] = tt
mends_it i (answer.Did o ∷ xs) = closes_it i xs
mends_it i (answer.Refused why ∷ xs) = gives_up i why xs
mends_it i (_ ∷ xs) = tt

brings_it : (file : FileId) (i : Serial) (stamps : List Stamp) (xs : Answers) → OpensToMend (brings i file stamps xs)
brings_it file i [] xs = mends_it i xs
brings_it file i (s ∷ stamps) [] = tt
brings_it file i (s ∷ stamps) (answer.Brought ∷ xs) = brings_it file i stamps xs
brings_it file i (s ∷ stamps) (answer.Refused why ∷ xs) = gives_up i why xs
brings_it file i (s ∷ stamps) (_ ∷ xs) = tt

mend_opens : (file : FileId) (xs : Answers) → OpensToMend (mend_wants file xs)
mend_opens file [] = tt
mend_opens file (answer.Merging i kept ∷ xs) = brings_it file i kept xs
mend_opens file (answer.Refused why ∷ []) = tt
mend_opens file (answer.Refused why ∷ (x ∷ xs)) = tt
mend_opens file (_ ∷ xs) = tt

begun_opens : (c : Config) (free : Option ℕ) (file : FileId) (b : Beginning) (xs : Answers) → OpensToMend (begun_wants c.mounts free (call.Mend file) b xs)
begun_opens c free file (begins.Denied why) xs = tt
begun_opens c free file (begins.Uses e i) xs = tt
begun_opens c free file (begins.Walks id) xs = mend_opens file xs
begun_opens c free file (begins.Reopens kept last) xs = tt
begun_opens c free file begins.Frees xs = tt

packed_opens : (p : ℕ → Bool) (w : Want) → OpensToMend w → OpensToMend (where_packed p w)
packed_opens p w k = over w k
  where
    by_test : (b : Bool) (y : Want) → OpensToMend y → OpensToMend (cond b y (want.Give (reply.No refusal.NoStorage)))
    by_test true y k = k
    by_test false y k = tt

    over : (y : Want) → OpensToMend y → OpensToMend (where_packed p y)
    over (want.Look f what) k = by_test (p f.group) (want.Look f what) tt
    over (want.Open f how) k = absurd k
    over (want.OpenToMend f) k = by_test (p f.group) (want.OpenToMend f) tt
    over (want.Make group kind sites) k = absurd k
    over (want.Do i o) k = tt
    over (want.Close i) k = tt
    over (want.Give r) k = tt
    over want.Never k = tt

-- so what it is granted is an open to mend
mend_mode : (m : Mode) (f : FileId) (w : Want) → OpensToMend w → is_open_of m f w ≡ true → m ≡ mode.Mend
mend_mode mode.Mend f w k e = refl
mend_mode mode.Read f (want.Open g how) k e = absurd k
mend_mode mode.Read f w k e = absurd (true_false (sym e))
mend_mode mode.Write f (want.Open g how) k e = absurd k
mend_mode mode.Write f w k e = absurd (true_false (sym e))
mend_mode mode.Resolve f (want.Open g how) k e = absurd k
mend_mode mode.Resolve f w k e = absurd (true_false (sym e))
mend_mode mode.Make f (want.Make group kind sites) k e = absurd k
mend_mode mode.Make f w k e = absurd (true_false (sym e))

-- ---- the mode fits the words ----

-- a mend opens its directory to mend it, and no other call opens so
abbrev pub Fits : Call → Mode → FileId → Type 0
Fits (call.Mend file) m f = (m ≡ mode.Mend) × (f ≡ file)
Fits words m f = m ≡ mode.Mend → ⊥

mend_is : (f g : FileId) → call.Mend f ≡ call.Mend g → f ≡ g
mend_is f g e = cc

opens_fit : (c : Config) (before : Trace) (w : Waiting) (o : Option Beginning) (xs : Answers) (m : Mode) (f : FileId) → is_open_of m f (wants_as c before (Some w) o xs) ≡ true → Fits w.words m f
opens_fit c before w o xs m f e = over w.words refl
  where
    opened : m ≡ mode.Mend → w.words ≡ call.Mend f
    opened is = mend_opened c before w o xs f (subst (λ (k : Mode). is_open_of k f (wants_as c before (Some w) o xs) ≡ true) is e)

    only : (file : FileId) → w.words ≡ call.Mend file → (b : Option Beginning) → o ≡ b → OpensToMend (wants_as c before (Some w) b xs)
    only file is None at = tt
    only file is (Some b) at = subst (λ (y : Call). OpensToMend (wants_as c before (Some (record w { words = y })) (Some b) xs)) (sym is) (packed_opens (is_packed_in c before w.epoch) (begun_wants c.mounts (lowest_free (descriptor before w.site w.process)) (call.Mend file) b xs) (begun_opens c (lowest_free (descriptor before w.site w.process)) file b xs))

    to_mend : (file : FileId) → w.words ≡ call.Mend file → m ≡ mode.Mend
    to_mend file is = mend_mode m f (wants_as c before (Some w) o xs) (only file is o refl) e

    over : (y : Call) → w.words ≡ y → Fits y m f
    over (call.Mend file) is = (to_mend file is, mend_is f file (sym (opened (to_mend file is)) ∙ is))
    over y is = λ at. absurd (subst IsMend (sym (opened at) ∙ is) tt)

-- ---- the version that it is granted on ----

-- an open to read is granted on a version
abbrev pub TellsVersion : Mode → Option Stamp → Type 0
TellsVersion mode.Read stamp = (v : Stamp) × (stamp ≡ Some v)
TellsVersion _ stamp = Unit {0}

pub only_some : (ks : List Stamp) (stamp : Option Stamp) → is_only ks stamp ≡ true → (v : Stamp) × (stamp ≡ Some v)
only_some ks (Some v) e = (v, refl)
only_some [] None e = absurd (true_false (sym e))
only_some (a ∷ []) None e = absurd (true_false (sym e))
only_some (a ∷ b ∷ others) None e = absurd (true_false (sym e))

pub tells_version : (h : List Version) (t : TreeState) (call : CallId) (i : Serial) (m : Mode) (f : FileId) (stamp : Option Stamp) (ss : ℕ) → gives_grant h t call i m f stamp ss ≡ true → TellsVersion m stamp
tells_version h t call i mode.Read f stamp ss e = only_some (kept_of h t f) stamp (and_first (is_only (kept_of h t f) stamp) _ placed)
  where
    placed : is_placed h t call mode.Read f stamp ss ≡ true
    placed = and_second (not (is_granted t i)) _ (and_second (i.us == call.site) _ (and_second (is_none (open_refusal h t mode.Read call f)) _ (and_second t.started _ e)))
tells_version h t call i _ f stamp ss e = tt

-- ---- a grant ----

pub record GrantedSo (c : Config) (t : List Line) (e : EpochId) (d : CallId) (m : Mode) (f : FileId) (stamp : Option Stamp) : Type 0 where
  pub accepted : Waiting
  pub named : call_named (entries t) d ≡ Some accepted
  pub fits : Fits accepted.words m f
  pub tells : TellsVersion m stamp
  pub started : IsStarted c t e f.group

pub granted_so : (c : Config) (t : List Line) → IsFollowed c t → (e : EpochId) (d : CallId) (request : ℕ) (i : Serial) (m : Mode) (f : FileId) (stamp : Option Stamp) (ss : ℕ) → WasGranted t e d request i m f stamp ss → GrantedSo c t e d m f stamp
granted_so c [] h e d request i m f stamp ss was = absurd was
granted_so c (y ∷ older) h e d request i m f stamp ss (inr was) = more (granted_so c older h.1 e d request i m f stamp ss was)
  where
    more : GrantedSo c older e d m f stamp → GrantedSo c (y ∷ older) e d m f stamp
    more k = record { accepted = k.accepted; named = named_stays c y.number y.told older d h.1 h.0 (k.accepted, k.named) ∙ k.named; fits = k.fits; tells = k.tells; started = started_stays c y.number y.told older e f.group k.started }
granted_so c (y ∷ older) h e d request i m f stamp ss (inl now) = over y.told h.0 now
  where
    over : (x : Told) → MayTell c older x → Printed (GrantRecord e d request i m f stamp ss) older x → GrantedSo c (With y.number x older) e d m f stamp
    over (Shown (says.Grant at call number inst md file on place)) may p = subst (λ (z : EpochId). GrantedSo c (With y.number it older) z d m f stamp) p.epoch_is
        (subst (λ (z : CallId). GrantedSo c (With y.number it older) at z m f stamp) p.call_is
        (subst (λ (z : Mode). GrantedSo c (With y.number it older) at call z f stamp) p.mode_is
        (subst (λ (z : FileId). GrantedSo c (With y.number it older) at call md z stamp) p.file_is
        (subst (λ (z : Option Stamp). GrantedSo c (With y.number it older) at call md file z) p.stamp_is own))))
      where
        it : Told
        it = Shown (says.Grant at call number inst md file on place)

        own : GrantedSo c (With y.number it older) at call md file on
        own = record {
          accepted = may.row.opens.step.accepted;
          named = named_stays c y.number it older call h.1 may (may.row.opens.step.accepted, may.row.opens.step.named) ∙ may.row.opens.step.named;
          fits = opens_fit c (entries older) may.row.opens.step.accepted (begun (entries older) call) (answers c (entries older) call) md file
              (subst (λ (o : Option Waiting). is_open_of md file (wants_as c (entries older) o (begun (entries older) call) (answers c (entries older) call)) ≡ true) may.row.opens.step.named may.row.opens.asked);
          tells = tells_version (history c (entries older)) (tree_of c at file.group (entries older)) call inst md file on place may.row.gives;
          started = started_stays c y.number it older at file.group (and_first _ _ may.row.gives);
        }
    over (Shown r) may p = absurd p
    over x may p = absurd p
