-- Files that are opened have numbers: what is granted, what was made, and what is mended.
use Rattle.std.proofs.Common.{◌≡◌, ℕ, ◌≤◌, ◌==◌, ◌+◌, ◌*◌, not, nat_lt, nat_le, Bool, true, false, cond, ◌&&◌, List, [], ◌∷◌, Option, Some, None, refl, sym, ◌∙◌, ap, subst, arith, ◌⊎◌, inl, inr}
use Rattle.std.proofs.lemmas.Bool.Decides.{nat_tests}
use Rattle.std.specs.List.{find}
use Rattle.std.specs.Option.{option_map, option_or}
use Rattle.locus_ids.specs.declared.config.Config.{Config}
use Rattle.locus_ids.specs.declared.ids.CallId.{CallId}
use Rattle.locus_ids.specs.declared.ids.EpochId.{EpochId}
use Rattle.locus_ids.specs.declared.ids.FileId.{FileId}
use Rattle.locus_ids.specs.declared.ids.Kind.{Kind}
use Rattle.locus_ids.specs.declared.ids.Kind.TheVariants as kind
use Rattle.locus_ids.specs.declared.ids.Mode.{Mode}
use Rattle.locus_ids.specs.declared.ids.Mode.TheVariants as mode
use Rattle.locus_ids.specs.declared.ids.Serial.{Serial}
use Rattle.locus_ids.specs.declared.ids.Stamp.{Stamp}
use Rattle.locus_ids.specs.Sizes.{site_inodes}
use Rattle.commit_graph.specs.declared.history.Version.{Version}
use Rattle.commit_graph.specs.Versions.{same_file}
use Rattle.std.specs.Option.{is_none}
use Rattle.role_steps.proofs.of_plain_facts.Options.{none_some, some_same}
use Rattle.role_steps.proofs.of_plain_facts.Tests.{and_first, and_second, true_false}
use Rattle.trace_book.specs.declared.operation.What.{What}
use Rattle.tree_model.specs.Given.{gives_grant}
use Rattle.lawful_trace.specs.CallRows.{CallRow, MayMend}
use Rattle.tree_laws.specs.Calls.{is_request}
use Rattle.trace_book.specs.Same.{same_call}
use Rattle.trace_book.specs.declared.call.Call.{Call}
use Rattle.trace_book.specs.declared.call.Call.TheVariants as call
use Rattle.trace_book.specs.declared.call.OpenMode.TheVariants as opens
use Rattle.trace_book.specs.declared.record.Record.{Record}
use Rattle.trace_book.specs.declared.record.Record.TheVariants as says
use Rattle.call_rules.specs.declared.want.Want.{Want}
use Rattle.call_rules.specs.declared.want.Want.TheVariants as want
use Rattle.wire_messages.specs.declared.body.Opening.{Opening}
use Rattle.role_steps.specs.Own.{Every}
use Rattle.role_steps.specs.Views.{Told, Shown}
use Rattle.the_run.specs.Worlds.{Line}
use Rattle.tree_model.specs.declared.accepted.Waiting.{Waiting}
use Rattle.tree_model.specs.declared.instance.Instance.{Instance}
use Rattle.tree_model.specs.declared.instance.Granted.{Granted}
use Rattle.tree_model.specs.Calls.{accepted_as, call_named, version_at, version_of}
use Rattle.tree_model.specs.Epochs.{epoch_of}
use Rattle.tree_model.specs.Files.{committing, committing_in, first_call, kind_made, kind_of_file, making_words, words_named}
use Rattle.tree_model.specs.Histories.{history}
use Rattle.tree_model.specs.Opening.{is_given_by, is_new_file, is_placed, is_site, making_site, open_refusal}
use Rattle.tree_model.specs.State.{TreeState, is_granted, is_writer}
use Rattle.tree_model.specs.Tree.{tree_of}
use Rattle.lawful_trace.specs.Progress.{is_packed_in}
use Rattle.lawful_trace.specs.Tables.{begins_now, begun, descriptor, opened_by}
use Rattle.lawful_trace.specs.TreeRows.{is_open_of}
use Rattle.tree_laws.specs.Calls.{log}
use Rattle.tree_laws.specs.Serials.{asked_now, is_open_want}
use Rattle.tree_laws.specs.Following.{IsFollowed, MayTell}
use Rattle.tree_laws.specs.Instances.{AsksOpen, IsOpening}
use Rattle.tree_laws.specs.Printed.{entries}
use Rattle.tree_laws.proofs.Boots.{found_every}
use Rattle.tree_laws.proofs.Hearing.{asks_next}
use Rattle.tree_laws.proofs.Naming.{steady_left}
use Rattle.tree_laws.proofs.Owing.{GrantHas, grants_have}
use Rattle.tree_laws.proofs.Reopening.{FromSteady, reopens_from}
use Rattle.tree_laws.proofs.Orders.ProcessOneDescriptor.{left_record}
use Rattle.tree_laws.proofs.Orders.Standing.{same_file_eq}
use Rattle.store_laws.proofs.ScriptFitting.{IsSound, OpensAs, ReadWords}
use Rattle.store_laws.proofs.ScriptFitted.{asked_sound}
use Rattle.store_laws.proofs.ScriptNaming.{BeganOpening, asks_begins, script_by}
use Rattle.store_laws.proofs.ScriptReopening.{OpensKept, read_kept, read_walks}
use Rattle.trace_book.specs.declared.descriptor.Descriptor.{Descriptor}
use Rattle.trace_book.specs.declared.descriptor.OneVersion.{OneVersion}
use Rattle.trace_book.specs.declared.call.OpenMode.{OpenMode}
use Rattle.trace_book.specs.declared.descriptor.Beginning.TheVariants as begins
use Rattle.call_rules.specs.Scripts.{wants}

abbrev With : ℕ → Told → List Line → List Line
With n x older = record { number = n; told = x } ∷ older

abbrev Numbered : Granted → Type 0
Numbered g = 1 ≤ g.file.ino

-- what has to stand: open instances are of files with numbers, and so are files that were made, mends, and the versions that descriptors keep
record AllNumbered (c : Config) (t : List Line) : Type 0 where
  instances : (e : EpochId) (g : ℕ) → Every (λ (x : Instance). Numbered x.grant) (tree_of c e g (entries t)).instances
  made : (f : FileId) (d : CallId) → first_call c (entries t) f ≡ Some d → 1 ≤ f.ino
  mends : (d : CallId) (w : Waiting) (f : FileId) → call_named (entries t) d ≡ Some w → w.words ≡ call.Mend f → 1 ≤ f.ino
  versions : (d : CallId) (v : OneVersion) → version_of (entries t) d ≡ Some v → 1 ≤ v.file.ino
  kept : (s process fd : ℕ) (x : Descriptor) (v : OneVersion) → descriptor (entries t) s process fd ≡ Some x → x.steady ≡ Some v → 1 ≤ v.file.ino
  reopens : (d : CallId) (v : OneVersion) (last : EpochId) → begun (entries t) d ≡ Some (begins.Reopens v last) → 1 ≤ v.file.ino

-- ---- grants ----

-- the number of a file that a call opens
sound_numbered : (words : Call) (g f : FileId) (m : OpenMode) → ((1 ≤ g.ino) × OpensAs words m) ⊎ (ReadWords words × (m ≡ opens.Read)) → (ReadWords words → 1 ≤ g.ino) → same_file g f ≡ true → 1 ≤ f.ino
sound_numbered words g f m (inl s) reads e = subst (λ (y : FileId). 1 ≤ y.ino) (same_file_eq g f e) s.0
sound_numbered words g f m (inr s) reads e = subst (λ (y : FileId). 1 ≤ y.ino) (same_file_eq g f e) (reads s.0)

opens_numbered : (words : Call) (w : Want) (m : Mode) (f : FileId) → IsSound words (Some 0) w → ((g : FileId) → words ≡ call.Mend g → 1 ≤ g.ino) → ((g : FileId) (n : OpenMode) → w ≡ want.Open g n → ReadWords words → 1 ≤ g.ino) → (m ≡ mode.Make → 1 ≤ f.ino) → is_open_of m f w ≡ true → 1 ≤ f.ino
opens_numbered words (want.Open g opens.Read) mode.Read f s mends reads made e = sound_numbered words g f opens.Read s (reads g opens.Read refl) e
opens_numbered words (want.Open g opens.Steady) mode.Read f s mends reads made e = sound_numbered words g f opens.Steady s (reads g opens.Steady refl) e
opens_numbered words (want.Open g opens.Write) mode.Write f s mends reads made e = sound_numbered words g f opens.Write s (reads g opens.Write refl) e
opens_numbered words (want.Open g (opens.Resolve site)) mode.Resolve f s mends reads made e = sound_numbered words g f (opens.Resolve site) s (reads g (opens.Resolve site) refl) e
opens_numbered words (want.OpenToMend g) mode.Mend f s mends reads made e = subst (λ (y : FileId). 1 ≤ y.ino) (same_file_eq g f e) (mends g s)
opens_numbered words (want.Make group kind sites) mode.Make f s mends reads made e = made refl
opens_numbered words w mode.Read f s mends reads made e = absurd (true_false (sym e))
opens_numbered words w mode.Write f s mends reads made e = absurd (true_false (sym e))
opens_numbered words w mode.Resolve f s mends reads made e = absurd (true_false (sym e))
opens_numbered words w mode.Mend f s mends reads made e = absurd (true_false (sym e))
opens_numbered words w mode.Make f s mends reads made e = absurd (true_false (sym e))

given_numbered : (s ino : ℕ) → is_given_by s ino ≡ true → 1 ≤ ino
given_numbered s ino e = above ino (and_second (nat_le ino (site_inodes * s)) (nat_lt 1 ino) (and_second (nat_lt (site_inodes * s) (ino + site_inodes)) _ e))
  where
    above : (n : ℕ) → nat_lt 1 n ≡ true → 1 ≤ n
    above n e = grind (arith, nat_tests)

-- a make is of a number that its site gives
made_numbered : (h : List Version) (t : TreeState) (call : CallId) (i : Serial) (m : Mode) (f : FileId) (stamp : Option Stamp) (ss : ℕ) → gives_grant h t call i m f stamp ss ≡ true → m ≡ mode.Make → 1 ≤ f.ino
made_numbered h t call i m f stamp ss e is = given_numbered ss f.ino (and_first (is_given_by ss f.ino) _ (and_second (is_site (making_site t call) ss) _ (and_first (is_new_file t call f ss) (is_none stamp) placed)))
  where
    placed : is_placed h t call mode.Make f stamp ss ≡ true
    placed = subst (λ (y : Mode). is_placed h t call y f stamp ss ≡ true) is
        (and_second (not (is_granted t i)) _ (and_second (i.us == call.site) _ (and_second (is_none (open_refusal h t m call f)) _ (and_second t.started _ e))))

look_opens : (c : Config) (f g : FileId) (w : What) (v : Want) (it : Opening) → IsOpening c v g it → v ≡ want.Look f w → ⊥
look_opens c f g w v it o e = subst (λ (y : Want). IsOpening c y g it) e o

-- a read opens the file of a version that its descriptor kept
read_number : (c : Config) (t : List Line) (d : CallId) (w : Waiting) (g : FileId) (n : OpenMode) → AllNumbered c t → call_named (entries t) d ≡ Some w → asked_now c t d ≡ want.Open g n → ReadWords w.words → 1 ≤ g.ino
read_number c t d w g n k named asked reads = over w.words refl reads (asks_begins c t d w named (ap is_open_want asked))
  where
    over : (y : Call) → w.words ≡ y → ReadWords y → BeganOpening t d w.words → 1 ≤ g.ino
    over (call.Read fd at len) is r (inl walks) = absurd (true_false (sym (ap is_open_want asked) ∙ (ap is_open_want (script_by c t d w (begins.Walks d) None (log t d) named walks ∙ ap (λ (y : Call). wants c.mounts (is_packed_in c (entries t) w.epoch) None y (begins.Walks d) (log t d)) is)
        ∙ read_walks c.mounts (is_packed_in c (entries t) w.epoch) None d fd at len (log t d))))
    over y is r (inr o) = subst (λ (f : FileId). 1 ≤ f.ino) file (k.reopens d o.2.kept o.2.last (o.1 ∙ ap Some o.2.begins_are))
      where
        file : o.2.kept.file ≡ g
        file = (subst (OpensKept o.2.kept) (ap (λ (z : Call). wants c.mounts (is_packed_in c (entries t) w.epoch) None z (begins.Reopens o.2.kept o.2.last) (log t d)) (sym o.2.words_are) ∙ (sym (script_by c t d w (begins.Reopens o.2.kept o.2.last) None (log t d) named (o.1 ∙ ap Some o.2.begins_are)) ∙ asked))
            (read_kept c.mounts (is_packed_in c (entries t) w.epoch) None o.2.fd o.2.at o.2.len o.2.kept o.2.last (log t d))).0
    over y is r (inl walks) = absurd r

grant_numbered : (c : Config) (older : List Line) (at : EpochId) (d : CallId) (request : ℕ) (i : Serial) (m : Mode) (f : FileId) (stamp : Option Stamp) (ss : ℕ) → IsFollowed c older → AllNumbered c older → MayTell c older (Shown (says.Grant at d request i m f stamp ss)) → 1 ≤ f.ino
grant_numbered c older at d request i m f stamp ss h k may = opens_numbered caller.words asks.wanted m f
    (subst (IsSound caller.words (Some 0)) asks.asks.asked (asked_sound c older d caller h asks.inside.named (ap is_request asks.asks.asked ∙ asks.asks.request)))
    (λ g is. k.mends d caller g asks.inside.named is)
    (λ g n is reads. read_number c older d caller g n k asks.inside.named (asks.asks.asked ∙ is) reads)
    (made_numbered (history c (entries older)) (tree_of c at f.group (entries older)) d i m f stamp ss may.row.gives)
    (ap (is_open_of m f) (sym (asks_next c older d asks.wanted h asks.asks (λ g w e. look_opens c g asks_file w asks.wanted it asks.opening_is e)).0) ∙ may.row.opens.asked)
  where
    it : Opening
    it = may.in_time.opens.it

    asks_file : FileId
    asks_file = may.in_time.opens.asked

    asks : AsksOpen c older at d request i.serial asks_file it
    asks = may.in_time.opens.asks

    caller : Waiting
    caller = asks.inside.accepted

granted_new : (c : Config) (older : List Line) (r : Record) (t : TreeState) → IsFollowed c older → AllNumbered c older → MayTell c older (Shown r) → GrantHas Numbered t r
granted_new c older (says.Grant at d request i m f stamp ss) t h k may = λ same group. grant_numbered c older at d request i m f stamp ss h k may
granted_new c older _ t h k may = tt

-- ---- files that were made ----

made_commit : (c : Config) (older : List Line) (f g : FileId) (site : ℕ) (d : CallId) → AllNumbered c older → (b : Bool) → cond b (option_map (λ (x : Instance). x.grant.call) (committing c (entries older) f site)) None ≡ Some d → 1 ≤ f.ino
made_commit c older f g site d k false e = absurd (none_some d e)
made_commit c older f g site d k true e = over (epoch_of (entries older) site) e
  where
    inst : (at : EpochId) (o : Option Instance) → find (is_writer f site) (tree_of c at f.group (entries older)).instances ≡ o → option_map (λ (x : Instance). x.grant.call) o ≡ Some d → 1 ≤ f.ino
    inst at None is e = absurd (none_some d e)
    inst at (Some x) is e = (let p : Numbered x.grant × (is_writer f site x ≡ true) = found_every (λ (y : Instance). Numbered y.grant) (is_writer f site) (tree_of c at f.group (entries older)).instances x is (k.instances at f.group) in
        subst (λ (y : FileId). 1 ≤ y.ino) (same_file_eq x.grant.file f (and_first (same_file x.grant.file f) _ p.1)) p.0)

    over : (o : Option EpochId) → option_map (λ (x : Instance). x.grant.call) (committing_in c (entries older) f site o) ≡ Some d → 1 ≤ f.ino
    over None e = absurd (none_some d e)
    over (Some at) e = inst at (find (is_writer f site) (tree_of c at f.group (entries older)).instances) refl e

made_record : (c : Config) (older : List Line) (n : ℕ) (r : Record) (f : FileId) (d : CallId) → AllNumbered c older → first_call c (record { line = n; what = r } ∷ entries older) f ≡ Some d → 1 ≤ f.ino
made_record c older n (says.Commit g site stamp parents content) f d k e = over (first_call c (entries older) f) refl e
  where
    over : (o : Option CallId) → first_call c (entries older) f ≡ o → option_or o (cond (same_file g f) (option_map (λ (x : Instance). x.grant.call) (committing c (entries older) f site)) None) ≡ Some d → 1 ≤ f.ino
    over (Some old) is e = k.made f old is
    over None is e = made_commit c older f g site d k (same_file g f) e
made_record c older n r f d k e = k.made f d e

-- ---- mends ----

mend_kind : (c : Config) (older : List Line) (f : FileId) → AllNumbered c older → kind_of_file c (entries older) f ≡ kind.Dir → 1 ≤ f.ino
mend_kind c older f k e = over (f.ino == 1) refl e
  where
    one : (n : ℕ) → (n == 1) ≡ true → 1 ≤ n
    one n e = grind (arith, nat_tests)

    not_dir : ◌≡◌ {A = Kind} kind.File kind.Dir → ⊥
    not_dir e = cc

    first_of : (o : Option CallId) → first_call c (entries older) f ≡ o → kind_made (words_named (entries older) o) ≡ kind.Dir → 1 ≤ f.ino
    first_of None is e = absurd (not_dir e)
    first_of (Some d) is e = k.made f d is

    over : (b : Bool) → (f.ino == 1) ≡ b → cond b kind.Dir (kind_made (making_words c (entries older) f)) ≡ kind.Dir → 1 ≤ f.ino
    over true is e = one f.ino is
    over false is e = first_of (first_call c (entries older) f) refl e

mends_record : (c : Config) (older : List Line) (n : ℕ) (r : Record) (d : CallId) (w : Waiting) (f : FileId) → MayTell c older (Shown r) → AllNumbered c older → call_named (record { line = n; what = r } ∷ entries older) d ≡ Some w → w.words ≡ call.Mend f → 1 ≤ f.ino
mends_record c older n (says.Accept s process new words) d w f may k named is = over (same_call new d) named
  where
    row : (y : Call) → CallRow c (entries older) s process new y → y ≡ call.Mend f → 1 ≤ f.ino
    row y m e = (let p : MayMend c (entries older) s process new f = subst (CallRow c (entries older) s process new) e m in mend_kind c older f k p.directory)

    over : (b : Bool) → cond b (Some (accepted_as (entries older) s process new words)) (call_named (entries older) d) ≡ Some w → 1 ≤ f.ino
    over true e = row words may.row (ap (λ (v : Waiting). v.words) (some_same (accepted_as (entries older) s process new words) w e) ∙ is)
    over false e = k.mends d w f e is
mends_record c older n r d w f may k named is = k.mends d w f named is

-- ---- versions ----

versions_record : (c : Config) (older : List Line) (n : ℕ) (r : Record) (d : CallId) (v : OneVersion) → IsFollowed c older → MayTell c older (Shown r) → AllNumbered c older → version_of (record { line = n; what = r } ∷ entries older) d ≡ Some v → 1 ≤ v.file.ino
versions_record c older n (says.Grant at it request inst m f stamp ss) d v h may k e = over (same_call it d) e
  where
    told : (o : Option Stamp) → version_at f o ≡ Some v → 1 ≤ v.file.ino
    told None is = absurd (none_some v is)
    told (Some s) is = subst (λ (y : OneVersion). 1 ≤ y.file.ino) (some_same (record { file = f; stamp = s }) v is) (grant_numbered c older at it request inst m f stamp ss h k may)

    over : (b : Bool) → cond b (version_at f stamp) (version_of (entries older) d) ≡ Some v → 1 ≤ v.file.ino
    over true is = told stamp is
    over false is = k.versions d v is
versions_record c older n r d v h may k e = k.versions d v e

kept_record : (c : Config) (older : List Line) (n : ℕ) (r : Record) (s process fd : ℕ) (x : Descriptor) (v : OneVersion) → AllNumbered c older → descriptor (record { line = n; what = r } ∷ entries older) s process fd ≡ Some x → x.steady ≡ Some v → 1 ≤ v.file.ino
kept_record c older n (says.Answer site user it y) s process fd x v k e keeps = over ((site == s) && (user == process)) e
  where
    left : (version_of (entries older) it ≡ Some v) ⊎ ((z : Descriptor) × (descriptor (entries older) s process fd ≡ Some z) × (z.steady ≡ Some v)) → 1 ≤ v.file.ino
    left (inl version) = k.versions it v version
    left (inr z) = k.kept s process fd z.0 v z.1 z.2

    over : (b : Bool) → cond b (opened_by y (entries older) it fd (descriptor (entries older) s process fd)) (descriptor (entries older) s process fd) ≡ Some x → 1 ≤ v.file.ino
    over true is = left (steady_left y (entries older) it fd (descriptor (entries older) s process fd) x v is keeps)
    over false is = k.kept s process fd x v is keeps
kept_record c older n r s process fd x v k e keeps = k.kept s process fd x v (left_record (entries older) n r s process fd x (λ z. z) e) keeps

reopens_record : (c : Config) (older : List Line) (n : ℕ) (r : Record) (d : CallId) (v : OneVersion) (last : EpochId) → AllNumbered c older → begun (record { line = n; what = r } ∷ entries older) d ≡ Some (begins.Reopens v last) → 1 ≤ v.file.ino
reopens_record c older n (says.Accept s process new words) d v last k e = over (same_call new d) e
  where
    from : FromSteady (descriptor (entries older) s process) words v last → 1 ≤ v.file.ino
    from f = k.kept s process f.fd f.stands v f.found f.keeps

    over : (b : Bool) → cond b (Some (begins_now (entries older) s process new words)) (begun (entries older) d) ≡ Some (begins.Reopens v last) → 1 ≤ v.file.ino
    over true is = from (reopens_from v last (descriptor (entries older) s process) (epoch_of (entries older) s) new words (some_same (begins_now (entries older) s process new words) (begins.Reopens v last) is))
    over false is = k.reopens d v last is
reopens_record c older n r d v last k e = k.reopens d v last e

-- ---- line by line ----

numbered_told : (c : Config) (n : ℕ) (x : Told) (older : List Line) → IsFollowed c older → MayTell c older x → AllNumbered c older → AllNumbered c (With n x older)
numbered_told c n (Shown r) older h may k = record {
  instances = λ e g. grants_have Numbered (history c (entries older)) r (tree_of c e g (entries older)) (granted_new c older r (tree_of c e g (entries older)) h k may) (k.instances e g);
  made = λ f d e. made_record c older n r f d k e;
  mends = λ d w f named is. mends_record c older n r d w f may k named is;
  versions = λ d v e. versions_record c older n r d v h may k e;
  kept = λ s process fd x v e keeps. kept_record c older n r s process fd x v k e keeps;
  reopens = λ d v last e. reopens_record c older n r d v last k e;
}
numbered_told c n x older h may k = record { instances = k.instances; made = k.made; mends = k.mends; versions = k.versions; kept = k.kept; reopens = k.reopens }

all_numbered : (c : Config) (t : List Line) → IsFollowed c t → AllNumbered c t
all_numbered c [] h = record { instances = λ e g. tt; made = λ f d e. absurd (none_some d e); mends = λ d w f e. absurd (none_some w e); versions = λ d v e. absurd (none_some v e); kept = λ s process fd x v e. absurd (none_some x e); reopens = λ d v last e. absurd (none_some (begins.Reopens v last) e) }
all_numbered c (x ∷ older) h = numbered_told c x.number x.told older h.1 h.0 (all_numbered c older h.1)

-- a mend is of a file that has a number
pub mend_numbered : (c : Config) (t : List Line) (d : CallId) (w : Waiting) (f : FileId) → IsFollowed c t → call_named (entries t) d ≡ Some w → w.words ≡ call.Mend f → 1 ≤ f.ino
mend_numbered c t d w f h named is = (all_numbered c t h).mends d w f named is

-- and so is a read that opens a version again
pub read_numbered : (c : Config) (t : List Line) (d : CallId) (w : Waiting) (g : FileId) (n : OpenMode) → IsFollowed c t → call_named (entries t) d ≡ Some w → asked_now c t d ≡ want.Open g n → ReadWords w.words → 1 ≤ g.ino
read_numbered c t d w g n h named asked reads = read_number c t d w g n (all_numbered c t h) named asked reads
