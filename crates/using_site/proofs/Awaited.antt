-- An answer, for the waiting call that asks it.
use Rattle.std.proofs.Common.{◌≡◌, ℕ, ◌+◌, Bool, true, false, List, ◌++◌, Option, Some, None, refl, sym, ap, ◌∙◌, subst}
use Rattle.std.proofs.lemmas.List.{append-nil}
use Rattle.std.specs.declared.result.Result.{Result}
use Rattle.std.specs.Prelude.{OnOk}
use Rattle.role_steps.proofs.of_plain_facts.Options.{some_none}
use Rattle.locus_ids.specs.declared.ids.FileId.{FileId}
use Rattle.locus_ids.specs.declared.ids.Stamp.{Stamp}
use Rattle.role_steps.specs.of_dir_format.Contents.{entries_of}
use Rattle.role_steps.specs.of_dir_format.Lookups.{shown_names}
use Rattle.trace_book.specs.declared.operation.Op.TheVariants as op
use Rattle.trace_book.specs.declared.operation.Outcome.{Outcome as Gave}
use Rattle.trace_book.specs.declared.operation.Outcome.TheVariants as result
use Rattle.trace_book.specs.declared.operation.What.{What}
use Rattle.trace_book.specs.declared.operation.What.TheVariants as what
use Rattle.call_rules.specs.declared.answer.Answer.{Answer}
use Rattle.call_rules.specs.declared.answer.Answer.TheVariants as answer
use Rattle.wire_messages.specs.Outboxes.{Outgoing}
use Rattle.wire_messages.specs.declared.body.LookAnswer.TheVariants as looked
use Rattle.role_steps.specs.of_page_cache.declared.part.Part.{Part}
use Rattle.role_steps.specs.Tables.{row, with_row, without_row, first_that}
use Rattle.role_steps.specs.Views.{Frame, Users, Outcome}
use Rattle.role_steps.specs.Requests.{instance_serial, request_packets, user_instance, waiting_key, with_user_instance, without_user_instance}
use Rattle.role_steps.specs.Using.{asks_held_number, content_answer, keeps_brought, keeps_part, kept_for, looks_again, mended_file, on_as_held, on_as_held_of, opened_answer, part_of_instance, takes_answer, takes_copied, takes_look, with_brought}
use Rattle.role_steps.specs.declared.users.Asking.{Asking}
use Rattle.role_steps.specs.declared.users.Asking.TheVariants as asking
use Rattle.role_steps.specs.declared.users.UserInstance.{UserInstance}
use Rattle.role_steps.specs.declared.users.WaitingCall.{WaitingCall}
use Rattle.keyed_tables.specs.Rising.{Rising}
use Rattle.waiting_calls.specs.Called.{with_content}
use Rattle.waiting_calls.specs.Rows.{asks_whole, key_of}
use Rattle.using_site.specs.Steps.{Gives, mended_by}
use Rattle.using_site.proofs.Asked.{asker}
use Rattle.using_site.proofs.Going.{with_waiting_rows}
use Rattle.using_site.proofs.Taken.{put_over, row_key}

-- what becomes of the call of this key becomes of the first that passes; u as it is seen, and v as its parts are
pub awaited : {A E : Type 0} (done : Result A E) (test : WaitingCall → Bool) (gives : Option WaitingCall → Outcome Users) (u v : Users) (rows : List WaitingCall) (key : ℕ) (new : Users) (before after : Outgoing) → v ≡ u → rows ≡ v.waiting → Rising waiting_key v.waiting → ◌≡◌ {A = Option ℕ} (Some key) (key_of (first_that test rows)) → ((w : WaitingCall) → first_that test u.waiting ≡ Some w → Rising waiting_key u.waiting → row waiting_key key u.waiting ≡ Some w → Rising waiting_key v.waiting → row waiting_key key v.waiting ≡ Some w → OnOk done (Gives (gives (Some w)) new before after)) → OnOk done (Gives (gives (first_that test u.waiting)) new before after)
awaited done test gives u v rows key new before after e s g h k =
    let same : v.waiting ≡ u.waiting = ap (λ (z : Users). z.waiting) e in
    let rising : Rising waiting_key u.waiting = subst (λ (all : List WaitingCall). Rising waiting_key all) same g in
    asker {P = OnOk done (Gives (gives (first_that test u.waiting)) new before after)} test u.waiting key rising
    (h ∙ ap (λ (all : List WaitingCall). key_of (first_that test all)) (s ∙ same))
    (λ w first found.
    subst (λ (o : Option WaitingCall). OnOk done (Gives (gives o) new before after)) (sym first)
    (k w first rising found g (ap (λ (all : List WaitingCall). row waiting_key key all) same ∙ found)))

-- the same answer, taken among the same users
pub same_taken : {A E : Type 0} (done : Result A E) (f : Frame) (w : WaitingCall) (a b : Answer) (v u : Users) (new : Users) (before after : Outgoing) → a ≡ b → v ≡ u → OnOk done (Gives (takes_answer f w a v) new before after) → OnOk done (Gives (takes_answer f w b u) new before after)
same_taken done f w a b v u new before after e h k =
    subst (λ (z : Users). OnOk done (Gives (takes_answer f w b z) new before after)) h
    (subst (λ (y : Answer). OnOk done (Gives (takes_answer f w y v) new before after)) e k)

-- what is kept of an answer leaves the calls that wait
part_waiting : (bytes : List ℕ) (p : Option Part) (u : Users) → (keeps_part bytes p u).waiting ≡ u.waiting
part_waiting bytes None u = refl
part_waiting bytes (Some p) u = refl

kept_waiting : (k : Asking) (r : Gave) (u : Users) → (keeps_brought k r u).waiting ≡ u.waiting
kept_waiting (asking.Op s ss n (op.Read at len) seen) (result.Data bytes) u = part_waiting bytes (part_of_instance at len (user_instance u s)) u
kept_waiting k r u = refl

-- an answer is taken once what it brought is kept
pub brought_taken : {A E : Type 0} (done : Result A E) (f : Frame) (w : WaitingCall) (a b : Answer) (r : Gave) (key : ℕ) (v u : Users) (new : Users) (before after : Outgoing) → a ≡ b → v ≡ keeps_brought w.asking r u → Rising waiting_key u.waiting → row waiting_key key u.waiting ≡ Some w → (Rising waiting_key v.waiting → row waiting_key key v.waiting ≡ Some w → OnOk done (Gives (takes_answer f w a v) new before after)) → OnOk done (Gives (takes_answer f w b (keeps_brought w.asking r u)) new before after)
brought_taken done f w a b r key v u new before after e k rising found go =
    let same : u.waiting ≡ v.waiting = sym (ap (λ (z : Users). z.waiting) k ∙ kept_waiting w.asking r u) in
    same_taken done f w a b v (keeps_brought w.asking r u) new before after e k
    (go (subst (λ (all : List WaitingCall). Rising waiting_key all) same rising) (subst (λ (all : List WaitingCall). row waiting_key key all ≡ Some w) same found))

-- the copied bytes of the call of this key are its answer
pub copied_taken : {A E : Type 0} (done : Result A E) (f : Frame) (w : WaitingCall) (o : Option (List ℕ)) (bytes : List ℕ) (u : Users) (new : Users) (before after : Outgoing) → o ≡ w.copied → o ≡ Some bytes → OnOk done (Gives (takes_answer f w (answer.Did (result.Data bytes)) u) new before after) → OnOk done (Gives (takes_copied f w w.copied u) new before after)
copied_taken done f w o bytes u new before after own is k = subst (λ (c : Option (List ℕ)). OnOk done (Gives (takes_copied f w c u) new before after)) (sym is ∙ own) k

none_taken : (f : Frame) (w : WaitingCall) (o : Option (List ℕ)) (u : Users) (before : Outgoing) → o ≡ None → Gives (takes_copied f w o u) u before before
none_taken f w None u before e = record { view = refl; packets = sym (append-nil before.packets); records = sym (append-nil before.records) }
none_taken f w (Some bytes) u before e = absurd (some_none bytes e)

-- where it has none nothing is done
pub nothing_copied : (f : Frame) (serial n : ℕ) (u v : Users) (rows : List WaitingCall) (key : ℕ) (o : Option (List ℕ)) (before : Outgoing) → v ≡ u → rows ≡ v.waiting → Rising waiting_key v.waiting → ◌≡◌ {A = Option ℕ} (Some key) (key_of (first_that (asks_held_number serial n) rows)) → ((w : WaitingCall) → row waiting_key key u.waiting ≡ Some w → o ≡ w.copied) → o ≡ None → Gives (on_as_held f serial n u) u before before
nothing_copied f serial n u v rows key o before e s g h own none =
    let same : v.waiting ≡ u.waiting = ap (λ (z : Users). z.waiting) e in
    asker {P = Gives (on_as_held f serial n u) u before before} (asks_held_number serial n) u.waiting key (subst (λ (all : List WaitingCall). Rising waiting_key all) same g)
    (h ∙ ap (λ (all : List WaitingCall). key_of (first_that (asks_held_number serial n) all)) (s ∙ same))
    (λ w first found. subst (λ (x : Option WaitingCall). Gives (on_as_held_of f x u) u before before) (sym first) (none_taken f w w.copied u before (sym (own w found) ∙ none)))

pub instance_out : (v u : Users) (rows : List UserInstance) (k serial : ℕ) → v ≡ u → k ≡ serial → rows ≡ without_row instance_serial k v.instances → record v { instances = rows } ≡ without_user_instance serial u
instance_out v u rows k serial e h g =
    ap (λ (all : List UserInstance). record v { instances = all }) (g ∙ ap (λ (n : ℕ). without_row instance_serial n v.instances) h) ∙ ap (without_user_instance serial) e

pub instance_put : (v u : Users) (rows : List UserInstance) (i : UserInstance) → v ≡ u → rows ≡ with_row instance_serial i v.instances → record v { instances = rows } ≡ with_user_instance i u
instance_put v u rows i e g = ap (λ (all : List UserInstance). record v { instances = all }) g ∙ ap (with_user_instance i) e

-- the stamps that a mend's open brings are those of the directory that it mends
pub opened_taken : {A E : Type 0} (done : Result A E) (f : Frame) (all : FileId → List Stamp) (kept : List Stamp) (serial ino : ℕ) (stamp : Stamp) (w : WaitingCall) (o : Option WaitingCall) (a : Answer) (v u : Users) (new : Users) (before after : Outgoing) → o ≡ Some w → kept_for all (mended_by o) ≡ kept → a ≡ opened_answer f serial ino stamp kept w.words w.asking → v ≡ u → OnOk done (Gives (takes_answer f w a v) new before after) → OnOk done (Gives (takes_answer f w (opened_answer f serial ino stamp (kept_for all (mended_file w.words)) w.words w.asking) u) new before after)
opened_taken done f all kept serial ino stamp w o a v u new before after e g h i k =
    same_taken done f w a (opened_answer f serial ino stamp (kept_for all (mended_file w.words)) w.words w.asking) v u new before after
    (h ∙ ap (λ (ks : List Stamp). opened_answer f serial ino stamp ks w.words w.asking) (sym g ∙ ap (λ (p : Option WaitingCall). kept_for all (mended_by p)) e)) i k

-- ---- contents ----

no_way : {P : Type 0} → ◌≡◌ {A = Bool} false true → P
no_way e = absurd (cc)

no_way_back : {P : Type 0} → ◌≡◌ {A = Bool} true false → P
no_way_back e = absurd (cc)

whole_by : {A E : Type 0} (done : Result A E) (f : Frame) (w : WaitingCall) (bytes : List ℕ) (u : Users) (new : Users) (before after : Outgoing) (k : Asking) → asks_whole k ≡ true → OnOk done (Gives (takes_answer f (with_content (Some bytes) w) answer.Brought u) new before after) → OnOk done (Gives (takes_answer f (with_brought k bytes w) (content_answer k bytes) u) new before after)
whole_by done f w bytes u new before after (asking.Look file (what.Whole stamp) take) e h = h
whole_by done f w bytes u new before after (asking.Look file (what.Name component) take) e h = no_way e
whole_by done f w bytes u new before after (asking.Look file what.List take) e h = no_way e
whole_by done f w bytes u new before after (asking.Look file what.Stat take) e h = no_way e
whole_by done f w bytes u new before after (asking.Open serial file how) e h = no_way e
whole_by done f w bytes u new before after (asking.Op serial ss number o seen) e h = no_way e
whole_by done f w bytes u new before after (asking.Close serial ss) e h = no_way e

pub whole_taken : {A E : Type 0} (done : Result A E) (f : Frame) (w : WaitingCall) (bytes : List ℕ) (u : Users) (new : Users) (before after : Outgoing) → asks_whole w.asking ≡ true → OnOk done (Gives (takes_answer f (with_content (Some bytes) w) answer.Brought u) new before after) → OnOk done (Gives (takes_look f w (looked.Content bytes) u) new before after)
whole_taken done f w bytes u new before after e h = whole_by done f w bytes u new before after w.asking e h

names_by : {A E : Type 0} (done : Result A E) (f : Frame) (w : WaitingCall) (bytes : List ℕ) (u : Users) (new : Users) (before after : Outgoing) (k : Asking) → asks_whole k ≡ false → OnOk done (Gives (takes_answer f w (answer.Showed (shown_names (entries_of bytes))) u) new before after) → OnOk done (Gives (takes_answer f (with_brought k bytes w) (content_answer k bytes) u) new before after)
names_by done f w bytes u new before after (asking.Look file (what.Whole stamp) take) e h = no_way_back e
names_by done f w bytes u new before after (asking.Look file (what.Name component) take) e h = h
names_by done f w bytes u new before after (asking.Look file what.List take) e h = h
names_by done f w bytes u new before after (asking.Look file what.Stat take) e h = h
names_by done f w bytes u new before after (asking.Open serial file how) e h = h
names_by done f w bytes u new before after (asking.Op serial ss number o seen) e h = h
names_by done f w bytes u new before after (asking.Close serial ss) e h = h

pub names_taken : {A E : Type 0} (done : Result A E) (f : Frame) (w : WaitingCall) (bytes : List ℕ) (names : List (List ℕ)) (u : Users) (new : Users) (before after : Outgoing) → asks_whole w.asking ≡ false → names ≡ shown_names (entries_of bytes) → OnOk done (Gives (takes_answer f w (answer.Showed names) u) new before after) → OnOk done (Gives (takes_look f w (looked.Content bytes) u) new before after)
names_taken done f w bytes names u new before after e g h =
    names_by done f w bytes u new before after w.asking e
    (subst (λ (ns : List (List ℕ)). OnOk done (Gives (takes_answer f w (answer.Showed ns) u) new before after)) g h)

-- ---- the same look again ----

abbrev pub with_take : WaitingCall → FileId → What → ℕ → WaitingCall
with_take w file asked take = record w { asking = asking.Look file asked take }

looked_again : (f : Frame) (u : Users) (w : WaitingCall) (file : FileId) (asked : What) (take : ℕ) {new : Users} {sent heard : Outgoing} → new ≡ with_waiting_rows (with_row waiting_key (with_take w file asked (take + 1)) u.waiting) u → heard.packets ≡ sent.packets ++ request_packets f (with_take w file asked (take + 1)) (asking.Look file asked (take + 1)) → heard.records ≡ sent.records → Gives (looks_again f w (asking.Look file asked take) u) new sent heard
looked_again f u w file asked take {sent = sent} v p r = record { view = v; packets = p; records = r ∙ sym (append-nil sent.records) }

-- w is the call of the row, and x the same call in code
pub again_gives : (f : Frame) (u v : Users) (rows all : List WaitingCall) (key : ℕ) (w x : WaitingCall) (k : Asking) (file : FileId) (asked : What) (take more : ℕ) {sent heard : Outgoing} → Rising waiting_key u.waiting → ◌≡◌ {A = Option WaitingCall} (row waiting_key key u.waiting) (Some w) → v ≡ u → rows ≡ without_row waiting_key key v.waiting → x ≡ w → w.asking ≡ k → k ≡ asking.Look file asked take → more ≡ take + 1 → all ≡ with_row waiting_key (with_take x file asked more) rows → heard.packets ≡ sent.packets ++ request_packets f (with_take x file asked more) (asking.Look file asked more) → heard.records ≡ sent.records → Gives (looks_again f w w.asking u) (with_waiting_rows all v) sent heard
again_gives f u v rows all key w x k file asked take more {sent = sent} {heard = heard} g h e l i j q m a p r =
    let same : with_take x file asked more ≡ with_take w file asked (take + 1) = ap (λ (y : WaitingCall). with_take y file asked more) i ∙ ap (with_take w file asked) m in
    let placed : all ≡ with_row waiting_key (with_take w file asked (take + 1)) v.waiting = a ∙ (ap (λ (y : WaitingCall). with_row waiting_key y rows) same ∙ (ap (with_row waiting_key (with_take w file asked (take + 1))) (l ∙ ap (λ (z : Users). without_row waiting_key key z.waiting) e) ∙ (put_over waiting_key key (with_take w file asked (take + 1)) u.waiting g (row_key waiting_key key w u.waiting h) ∙ ap (λ (z : Users). with_row waiting_key (with_take w file asked (take + 1)) z.waiting) (sym e)))) in
    subst (λ (y : Asking). Gives (looks_again f w y u) (with_waiting_rows all v) sent heard) (sym (j ∙ q))
    (looked_again f u w file asked take
    (ap (λ (rs : List WaitingCall). with_waiting_rows rs v) placed ∙ ap (λ (z : Users). with_waiting_rows (with_row waiting_key (with_take w file asked (take + 1)) z.waiting) z) e)
    (p ∙ (ap (λ (y : WaitingCall). sent.packets ++ request_packets f y (asking.Look file asked more)) same ∙ ap (λ (n : ℕ). sent.packets ++ request_packets f (with_take w file asked (take + 1)) (asking.Look file asked n)) m))
    r)
