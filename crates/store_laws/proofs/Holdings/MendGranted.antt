-- While a mend's instance isn't released, what its open was answered is what is kept of its file.
use Rattle.std.proofs.Common.{◌≡◌, ℕ, ◌-◌, Bool, true, false, cond, List, [], ◌∷◌, ◌++◌, take, Option, Some, None, zero, suc, refl, sym, ◌∙◌, ap, subst, ◌⊎◌, inl, inr}
use Rattle.tree_laws.proofs.of_plain_facts.Tests.{and_first}
use Rattle.locus_ids.specs.declared.config.Config.{Config}
use Rattle.locus_ids.specs.declared.ids.CallId.{CallId}
use Rattle.locus_ids.specs.declared.ids.EpochId.{EpochId}
use Rattle.locus_ids.specs.declared.ids.FileId.{FileId}
use Rattle.locus_ids.specs.declared.ids.Mode.{Mode}
use Rattle.locus_ids.specs.declared.ids.Mode.TheVariants as mode
use Rattle.locus_ids.specs.declared.ids.Serial.{Serial}
use Rattle.locus_ids.specs.declared.ids.Stamp.{Stamp}
use Rattle.trace_book.specs.Same.{same_call}
use Rattle.trace_book.specs.declared.call.Call.TheVariants as call
use Rattle.trace_book.specs.declared.descriptor.OneVersion.{OneVersion}
use Rattle.trace_book.specs.declared.record.Record.{Record}
use Rattle.trace_book.specs.declared.record.Record.TheVariants as says
use Rattle.call_rules.specs.declared.answer.Answer.{Answer}
use Rattle.call_rules.specs.declared.answer.Answer.TheVariants as answer
use Rattle.site_laws.specs.of_role_steps.Views.{Told, Shown, LooksAgain}
use Rattle.tree_laws.specs.of_the_run.Worlds.{Line}
use Rattle.tree_model.specs.declared.accepted.Waiting.{Waiting}
use Rattle.tree_model.specs.Calls.{call_named}
use Rattle.tree_model.specs.Folds.{Trace}
use Rattle.tree_model.specs.State.{instance_in}
use Rattle.tree_model.specs.Tree.{kept_in, tree_of}
use Rattle.tree_laws.specs.of_lawful_trace.Progress.{Answers, answers, answers_after, granted_answer, look_answer, close_answer, outcome_answer, wants_as}
use Rattle.tree_laws.specs.of_lawful_trace.Tables.{begun, call_of_act, call_of_release, is_call}
use Rattle.tree_laws.specs.of_lawful_trace.TreeRows.{IsCallIn, is_open_of}
use Rattle.tree_laws.specs.Calls.{heard, heard_after}
use Rattle.tree_laws.specs.Following.{IsFollowed, MayTell}
use Rattle.tree_laws.specs.Past.{WasGranted, WasReleased}
use Rattle.tree_laws.specs.Printed.{entries, onto_entries}
use Rattle.tree_laws.proofs.Awaiting.{OpensIt, close_opens, look_opens, outcome_opens}
use Rattle.tree_laws.proofs.Names.{same_call_eq}
use Rattle.tree_laws.proofs.Rows.{followed_rows}
use Rattle.tree_laws.proofs.Scripts.{named_stays}
use Rattle.tree_laws.specs.Orders.Joining.{PacksAreOfSites}
use Rattle.tree_laws.specs.Orders.Keeping.{PassesBy}
use Rattle.tree_laws.proofs.Orders.Keeping.{IsNew, kept_by}
use Rattle.tree_laws.proofs.Orders.ProcessOpen.{OpenAs, granted_open}
use Rattle.store_laws.proofs.Holdings.Begun.{open_in_group}
use Rattle.store_laws.proofs.Holdings.Kept.{open_keeps}
use Rattle.store_laws.proofs.Holdings.Made.{CommitsAreNew}
use Rattle.store_laws.proofs.Holdings.MendMends.{mend_opened}

abbrev With : ℕ → Told → List Line → List Line
With n x older = record { number = n; told = x } ∷ older

-- ---- the first answer of a call ----

abbrev StartsWith : Answers → Answer → Type 0
StartsWith xs a = (rest : Answers) × (xs ≡ a ∷ rest)

first_one : (x a : Answer) (xs rest : Answers) → x ∷ xs ≡ a ∷ rest → x ≡ a
first_one x a xs rest e = cc

first_part : (xs : Answers) (b a : Answer) (rest : Answers) → xs ++ b ∷ [] ≡ a ∷ rest → StartsWith xs a ⊎ ((xs ≡ []) × (b ≡ a))
first_part [] b a rest e = inr (refl, first_one b a [] rest e)
first_part (x ∷ xs) b a rest e = inl (xs, ap (λ (y : Answer). y ∷ xs) (first_one x a (xs ++ b ∷ []) rest e))

none_one : (a : Answer) (rest : Answers) → [] ≡ a ∷ rest → ⊥
none_one a rest e = cc

first_taken : (k : ℕ) (xs : Answers) (a : Answer) (rest : Answers) → take k xs ≡ a ∷ rest → StartsWith xs a
first_taken zero xs a rest e = absurd (none_one a rest e)
first_taken (suc k) [] a rest e = absurd (none_one a rest e)
first_taken (suc k) (x ∷ xs) a rest e = (xs, ap (λ (y : Answer). y ∷ xs) (first_one x a (take k xs) rest e))

-- an answer that opens nothing is no such first one
unopened : (b : Answer) (i : Serial) (kept : List Stamp) → ((j : Serial) → OpensIt b j → ⊥) → b ≡ answer.Merging i kept → ⊥
unopened b i kept none e = none i (subst (λ (y : Answer). OpensIt y i) (sym e) refl)

-- ---- the grant of a mend ----

-- the record grants the call this instance to mend, and answers what is kept
record GrantsMend (c : Config) (before : Trace) (d : CallId) (i : Serial) (kept : List Stamp) (e : EpochId) (call : CallId) (request : ℕ) (inst : Serial) (m : Mode) (f : FileId) (stamp : Option Stamp) (ss : ℕ) : Type 0 where
  call_is : call ≡ d
  serial_is : inst ≡ i
  mode_is : m ≡ mode.Mend
  kept_is : kept ≡ kept_in c before e f

abbrev GrantsNow : Config → Trace → CallId → Serial → List Stamp → Record → Type 0
GrantsNow c before d i kept (says.Grant e call request inst m f stamp ss) = GrantsMend c before d i kept e call request inst m f stamp ss
GrantsNow c before d i kept _ = ⊥

abbrev GrantsTold : Config → Trace → CallId → Serial → List Stamp → Told → Type 0
GrantsTold c before d i kept (Shown r) = GrantsNow c before d i kept r
GrantsTold c before d i kept _ = ⊥

merging_serial : (i j : Serial) (ks ls : List Stamp) → answer.Merging i ks ≡ answer.Merging j ls → i ≡ j
merging_serial i j ks ls e = cc

merging_kept : (i j : Serial) (ks ls : List Stamp) → answer.Merging i ks ≡ answer.Merging j ls → ks ≡ ls
merging_kept i j ks ls e = cc

opened_merging : (j i : Serial) (ino : ℕ) (ls : List Stamp) → answer.Opened j ino ≡ answer.Merging i ls → ⊥
opened_merging j i ino ls e = cc

reading_merging : (j i : Serial) (version : OneVersion) (ls : List Stamp) → answer.Reading j version ≡ answer.Merging i ls → ⊥
reading_merging j i version ls e = cc

granted_so : (c : Config) (before : Trace) (e : EpochId) (call : CallId) (request : ℕ) (inst : Serial) (m : Mode) (f : FileId) (stamp : Option Stamp) (ss : ℕ) (d : CallId) (i : Serial) (kept : List Stamp) → call ≡ d → granted_answer m inst f stamp (kept_in c before e f) ≡ answer.Merging i kept → GrantsMend c before d i kept e call request inst m f stamp ss
granted_so c before e call request inst mode.Mend f stamp ss d i kept same is = record { call_is = same; serial_is = merging_serial inst i (kept_in c before e f) kept is; mode_is = refl; kept_is = sym (merging_kept inst i (kept_in c before e f) kept is) }
granted_so c before e call request inst mode.Read f (Some s) ss d i kept same is = absurd (reading_merging inst i (record { file = f; stamp = s }) kept is)
granted_so c before e call request inst mode.Read f None ss d i kept same is = absurd (opened_merging inst i f.ino kept is)
granted_so c before e call request inst mode.Write f stamp ss d i kept same is = absurd (opened_merging inst i f.ino kept is)
granted_so c before e call request inst mode.Resolve f stamp ss d i kept same is = absurd (opened_merging inst i f.ino kept is)
granted_so c before e call request inst mode.Make f stamp ss d i kept same is = absurd (opened_merging inst i f.ino kept is)

-- what is answered on goes on from the old ones, or is the only one
added : (b : Bool) (xs : Answers) (a x : Answer) (rest : Answers) → (x ≡ a → ⊥) → cond b (xs ++ x ∷ []) xs ≡ a ∷ rest → StartsWith xs a
added true xs a x rest none e = over (first_part xs x a rest e)
  where
    over : StartsWith xs a ⊎ ((xs ≡ []) × (x ≡ a)) → StartsWith xs a
    over (inl k) = k
    over (inr k) = absurd (none k.1)
added false xs a x rest none e = (rest, e)

first_record : (c : Config) (r : Record) (before : Trace) (d : CallId) (old : Answers) (i : Serial) (kept : List Stamp) (rest : Answers) → answers_after r c before d old ≡ answer.Merging i kept ∷ rest → StartsWith old (answer.Merging i kept) ⊎ GrantsNow c before d i kept r
first_record c (says.Look e call request f w result) before d old i kept rest h = inl (over (same_call call d) h)
  where
    looked : StartsWith (take (request - 1) old) (answer.Merging i kept) ⊎ ((take (request - 1) old ≡ []) × (look_answer c before f w result ≡ answer.Merging i kept)) → StartsWith old (answer.Merging i kept)
    looked (inl k) = first_taken (request - 1) old (answer.Merging i kept) k.0 k.1
    looked (inr k) = absurd (unopened (look_answer c before f w result) i kept (λ j o. look_opens c before f w result j o) k.1)

    over : (b : Bool) → cond b (take (request - 1) old ++ look_answer c before f w result ∷ []) old ≡ answer.Merging i kept ∷ rest → StartsWith old (answer.Merging i kept)
    over true k = looked (first_part (take (request - 1) old) (look_answer c before f w result) (answer.Merging i kept) rest k)
    over false k = (rest, k)
first_record c (says.Grant e call request inst m f stamp ss) before d old i kept rest h = over (same_call call d) refl h
  where
    added_now : same_call call d ≡ true → StartsWith old (answer.Merging i kept) ⊎ ((old ≡ []) × (granted_answer m inst f stamp (kept_in c before e f) ≡ answer.Merging i kept)) → StartsWith old (answer.Merging i kept) ⊎ GrantsMend c before d i kept e call request inst m f stamp ss
    added_now t (inl k) = inl k
    added_now t (inr k) = inr (granted_so c before e call request inst m f stamp ss d i kept (same_call_eq call d t) k.1)

    over : (b : Bool) → same_call call d ≡ b → cond b (old ++ granted_answer m inst f stamp (kept_in c before e f) ∷ []) old ≡ answer.Merging i kept ∷ rest → StartsWith old (answer.Merging i kept) ⊎ GrantsMend c before d i kept e call request inst m f stamp ss
    over true t k = added_now t (first_part old (granted_answer m inst f stamp (kept_in c before e f)) (answer.Merging i kept) rest k)
    over false t k = inl (rest, k)
first_record c (says.Refuse e call request inst m f why) before d old i kept rest h = inl (added (same_call call d) old (answer.Merging i kept) (answer.Refused why) rest (unopened (answer.Refused why) i kept (λ j o. o)) h)
first_record c (says.Act e inst n o result) before d old i kept rest h = inl (added (is_call (call_of_act before e inst n) d) old (answer.Merging i kept) (outcome_answer result) rest (unopened (outcome_answer result) i kept (λ j k. outcome_opens result j k)) h)
first_record c (says.Release e inst f stamp) before d old i kept rest h = inl (added (is_call (call_of_release before e inst) d) old (answer.Merging i kept) (close_answer stamp (instance_in (tree_of c e f.group before) inst)) rest
    (unopened (close_answer stamp (instance_in (tree_of c e f.group before) inst)) i kept (λ j k. close_opens stamp (instance_in (tree_of c e f.group before) inst) j k)) h)
first_record c r before d old i kept rest h = inl (rest, h)

first_told : (c : Config) (x : Told) (before : Trace) (d : CallId) (old : Answers) (i : Serial) (kept : List Stamp) (rest : Answers) → heard_after c x before d old ≡ answer.Merging i kept ∷ rest → StartsWith old (answer.Merging i kept) ⊎ GrantsTold c before d i kept x
first_told c (Shown r) before d old i kept rest h = first_record c r before d old i kept rest h
first_told c (LooksAgain s call request k) before d old i kept rest h = inl (over (same_call call d) h)
  where
    over : (b : Bool) → cond b (take (request - 1) old) old ≡ answer.Merging i kept ∷ rest → StartsWith old (answer.Merging i kept)
    over true e = first_taken (request - 1) old (answer.Merging i kept) rest e
    over false e = (rest, e)
first_told c x before d old i kept rest h = inl (rest, h)

-- ---- what is kept stays ----

-- the instance was granted to the mend, and what was kept is kept while it isn't released
pub record MendOf (c : Config) (t : List Line) (d : CallId) (i : Serial) (kept : List Stamp) : Type 0 where
  pub epoch : EpochId
  pub file : FileId
  pub request : ℕ
  pub stamp : Option Stamp
  pub place : ℕ
  pub was : WasGranted t epoch d request i mode.Mend file stamp place
  pub caller : Waiting
  pub named : call_named (entries t) d ≡ Some caller
  pub made_in : caller.epoch ≡ Some epoch
  pub words_are : caller.words ≡ call.Mend file
  pub stays : (WasReleased t epoch i → ⊥) → kept ≡ kept_in c (entries t) epoch file

mend_kept : (c : Config) (older : List Line) (n : ℕ) (x : Told) → PacksAreOfSites c → IsFollowed c older → MayTell c older x → CommitsAreNew c (onto_entries n x (entries older)) → (e : EpochId) (d : CallId) (i : Serial) (f : FileId) (ss : ℕ) →
    OpenAs c older e d i mode.Mend f ss → (WasReleased (With n x older) e i → ⊥) → kept_in c (onto_entries n x (entries older)) e f ≡ kept_in c (entries older) e f
mend_kept c older n (Shown r) few h may new e d i f ss k live = open_keeps c (entries older) few (followed_rows c older h) e f i k.at
    (subst (λ (y : FileId). instance_in (tree_of c e y.group (entries older)) i ≡ Some k.at) k.file_is (open_in_group c older h e i k.at k.found)) k.file_is n r may.row (passes r new.0 live)
  where
    passes : (r : Record) → IsNew c (entries older) r → (WasReleased (With n (Shown r) older) e i → ⊥) → PassesBy c (entries older) e f i r
    passes (says.Commit g z made parents content) new live = new
    passes (says.Release at inst g last) new live = λ p q. live (inl (record { epoch_is = p; serial_is = q }))
    passes _ new live = tt
mend_kept c older n _ few h may new e d i f ss k live = refl

granted_mend : (c : Config) (older : List Line) (n : ℕ) (x : Told) → PacksAreOfSites c → IsFollowed c older → MayTell c older x → (d : CallId) (i : Serial) (kept : List Stamp) → GrantsTold c (entries older) d i kept x → MendOf c (With n x older) d i kept
granted_mend c older n (Shown (says.Grant e call request inst m f stamp ss)) few h may d i kept g = record {
  epoch = e;
  file = f;
  request = request;
  stamp = stamp;
  place = ss;
  was = inl (record { epoch_is = refl; call_is = g.call_is; request_is = refl; serial_is = g.serial_is; mode_is = g.mode_is; file_is = refl; stamp_is = refl; place_is = refl });
  caller = inside.accepted;
  named = inside.named;
  made_in = inside.made_in;
  words_are = mend_opened c (entries older) inside.accepted (begun (entries older) d) (answers c (entries older) d) f
      (subst (λ (o : Option Waiting). is_open_of mode.Mend f (wants_as c (entries older) o (begun (entries older) d) (answers c (entries older) d)) ≡ true) inside.named
      (subst (λ (y : CallId). is_open_of mode.Mend f (wants_as c (entries older) (call_named (entries older) y) (begun (entries older) y) (answers c (entries older) y)) ≡ true) g.call_is
      (subst (λ (y : Mode). is_open_of y f (wants_as c (entries older) (call_named (entries older) call) (begun (entries older) call) (answers c (entries older) call)) ≡ true) g.mode_is may.row.opens.asked)));
  stays = λ live. g.kept_is ∙ sym (kept_by c (entries older) few (followed_rows c older h) e f started n (says.Grant e call request inst m f stamp ss) may.row tt tt);
}
  where
    inside : IsCallIn (entries older) e d
    inside = subst (IsCallIn (entries older) e) g.call_is may.row.opens.step

    started : (tree_of c e f.group (entries older)).started ≡ true
    started = and_first (tree_of c e f.group (entries older)).started _ may.row.gives
granted_mend c older n x few h may d i kept g = absurd g

later_mend : (c : Config) (older : List Line) (n : ℕ) (x : Told) → PacksAreOfSites c → IsFollowed c older → MayTell c older x → CommitsAreNew c (onto_entries n x (entries older)) → (d : CallId) (i : Serial) (kept : List Stamp) → MendOf c older d i kept → MendOf c (With n x older) d i kept
later_mend c older n x few h may new d i kept k = record {
  epoch = k.epoch;
  file = k.file;
  request = k.request;
  stamp = k.stamp;
  place = k.place;
  was = inr k.was;
  caller = k.caller;
  named = named_stays c n x older d h may (k.caller, k.named) ∙ k.named;
  made_in = k.made_in;
  words_are = k.words_are;
  stays = λ live. k.stays (λ r. live (inr r)) ∙ sym (mend_kept c older n x few h may new k.epoch d i k.file k.place
      (granted_open c older h k.epoch d k.request i mode.Mend k.file k.stamp k.place k.was (λ r. live (inr r))) live);
}

pub all_mends : (c : Config) (t : List Line) → PacksAreOfSites c → IsFollowed c t → CommitsAreNew c (entries t) → (d : CallId) (i : Serial) (kept : List Stamp) (rest : Answers) → heard c t d ≡ answer.Merging i kept ∷ rest → MendOf c t d i kept
all_mends c [] few h new d i kept rest e = absurd (none_one (answer.Merging i kept) rest e)
all_mends c (x ∷ older) few h new d i kept rest e = over (λ (k : StartsWith (heard c older d) (answer.Merging i kept)). all_mends c older few h.1 (older_new x.told new) d i kept k.0 k.1) (first_told c x.told (entries older) d (heard c older d) i kept rest e)
  where
    older_new : (y : Told) → CommitsAreNew c (onto_entries x.number y (entries older)) → CommitsAreNew c (entries older)
    older_new (Shown r) p = p.1
    older_new _ p = p

    over : (StartsWith (heard c older d) (answer.Merging i kept) → MendOf c older d i kept) → StartsWith (heard c older d) (answer.Merging i kept) ⊎ GrantsTold c (entries older) d i kept x.told → MendOf c (x ∷ older) d i kept
    over before (inl k) = later_mend c older x.number x.told few h.1 h.0 new d i kept (before k)
    over before (inr g) = granted_mend c older x.number x.told few h.1 h.0 d i kept g
