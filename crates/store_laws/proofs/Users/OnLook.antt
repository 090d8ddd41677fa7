-- The answer to a look comes: its process takes it, and goes on.
use Rattle.std.proofs.Common.{◌≡◌, ℕ, ◌+◌, ◌==◌, Bool, true, false, cond, ◌&&◌, List, [], ◌∷◌, ◌++◌, length, map, Option, Some, None, refl, sym, ◌∙◌, ap, subst}
use Rattle.role_steps.proofs.of_plain_facts.Numbers.{equal}
use Rattle.role_steps.proofs.of_plain_facts.Tests.{true_false}
use Rattle.locus_ids.specs.declared.config.Config.{Config}
use Rattle.locus_ids.specs.declared.ids.CallId.{CallId}
use Rattle.locus_ids.specs.declared.ids.FileId.{FileId}
use Rattle.locus_ids.specs.declared.ids.Kind.{Kind}
use Rattle.locus_ids.specs.declared.ids.Stamp.{Stamp}
use Rattle.locus_ids.specs.declared.refusal.Refusal.{Refusal}
use Rattle.commit_graph.specs.Versions.{content_of}
use Rattle.dir_format.specs.Contents.{entries_of}
use Rattle.dir_format.specs.Lookups.{lookup}
use Rattle.dir_format.specs.declared.looking.LookResult.{LookResult}
use Rattle.dir_format.specs.declared.looking.LookResult.TheVariants as seen
use Rattle.trace_book.specs.declared.call.Call.{Call}
use Rattle.trace_book.specs.declared.call.Call.TheVariants as call
use Rattle.trace_book.specs.declared.operation.Served.{Served}
use Rattle.trace_book.specs.declared.operation.Served.TheVariants as served
use Rattle.trace_book.specs.declared.operation.What.{What}
use Rattle.trace_book.specs.declared.operation.What.TheVariants as what
use Rattle.call_rules.specs.declared.answer.Answer.{Answer}
use Rattle.call_rules.specs.declared.answer.Answer.TheVariants as answer
use Rattle.call_rules.specs.declared.want.Want.{Want}
use Rattle.call_rules.specs.declared.want.Want.TheVariants as want
use Rattle.wire_messages.specs.declared.body.LookAnswer.{LookAnswer}
use Rattle.wire_messages.specs.declared.body.LookAnswer.TheVariants as looked
use Rattle.role_steps.specs.Storage.{look_found, served_content}
use Rattle.role_steps.specs.Tables.{first_that}
use Rattle.role_steps.specs.Using.{answers_what, asks_take, content_answer, goes_on, looks_again, on_look_done, on_look_done_of, takes_answer, takes_look, takes_record, with_answer, with_brought}
use Rattle.role_steps.specs.Views.{Users, Frame}
use Rattle.role_steps.specs.declared.users.Asking.{Asking}
use Rattle.role_steps.specs.declared.users.Asking.TheVariants as asking
use Rattle.role_steps.specs.declared.users.WaitingCall.{WaitingCall}
use Rattle.tree_laws.specs.of_the_run.Kept.{Among}
use Rattle.tree_laws.specs.of_the_run.Worlds.{Line}
use Rattle.tree_model.specs.Files.{kind_of_file}
use Rattle.tree_model.specs.Histories.{history}
use Rattle.tree_model.specs.declared.accepted.Waiting.{Waiting}
use Rattle.tree_laws.specs.of_lawful_trace.Progress.{entered, found_in, look_answer}
use Rattle.tree_laws.specs.Printed.{entries}
use Rattle.tree_laws.specs.Calls.{Waits, log, script, tries}
use Rattle.tree_laws.specs.Doing.{FrameFact, UsersFine, UsersInside}
use Rattle.tree_laws.specs.Following.{IsFollowed, MayTell}
use Rattle.tree_laws.specs.Frames.{AllStay}
use Rattle.tree_laws.specs.Instances.{Stands}
use Rattle.tree_laws.specs.Packets.{LookAnswers, LookDoneFact}
use Rattle.tree_laws.specs.Past.{WasLooked}
use Rattle.tree_laws.specs.Serials.{asked_now}
use Rattle.tree_laws.specs.Users.{own_call, had, had_by, brought_of, taken_whole, AskingIs, Brings, BringsFor, WaitingFact}
use Rattle.tree_laws.proofs.Names.{same_call_own}
use Rattle.tree_laws.proofs.Owing.{every_added}
use Rattle.store_laws.specs.Users.Rests.{Follows, LookRests, Staying, Steady}
use Rattle.store_laws.specs.Users.Turning.{it}
use Rattle.store_laws.proofs.Users.Again.{again_fine, again_record, may_again}
use Rattle.store_laws.proofs.Users.Going.{goes_fine}
use Rattle.store_laws.proofs.Users.Looked.{LooksSo, looks_so}
use Rattle.store_laws.proofs.Users.Taking.{again, frame_so, may_take, plain_turns, takes_fine}
use Rattle.store_laws.proofs.Users.Staying.{With}
use Rattle.store_laws.proofs.Users.Tabled.{every_among, first_found}

-- ---- what the packet brings is what the records answer ----

entered_is : (k : Kind) (s : Stamp) (w : What) (content : List ℕ) (ino : ℕ) (kind : Kind) → looked.Found ino kind ≡ served_content w content → found_in k s w content ≡ answer.Entered ino kind
entered_is k s (what.Name component) content ino kind e = over (lookup (entries_of content) component) e
  where
    over : (r : LookResult) → looked.Found ino kind ≡ look_found component r → entered component r ≡ answer.Entered ino kind
    over (seen.Found a b) e = same a b e
      where
        same : (a : ℕ) (b : Kind) → looked.Found ino kind ≡ looked.Found a b → answer.Entered a b ≡ answer.Entered ino kind
        same a b e = cc
    over seen.Absent e = cc
    over (seen.Ambiguous a b) e = cc
entered_is k s what.List content ino kind e = cc
entered_is k s what.Stat content ino kind e = cc
entered_is k s (what.Whole asked) content ino kind e = cc

refused_is : (k : Kind) (s : Stamp) (w : What) (content : List ℕ) (why : Refusal) → looked.No why ≡ served_content w content → found_in k s w content ≡ answer.Refused why
refused_is k s (what.Name component) content why e = over (lookup (entries_of content) component) e
  where
    over : (r : LookResult) → looked.No why ≡ look_found component r → entered component r ≡ answer.Refused why
    over (seen.Found a b) e = cc
    over seen.Absent e = cc
    over (seen.Ambiguous a b) e = cc
refused_is k s what.List content why e = cc
refused_is k s what.Stat content why e = cc
refused_is k s (what.Whole asked) content why e = cc

content_is : (k : Kind) (s : Stamp) (file : FileId) (w : What) (take : ℕ) (content bytes : List ℕ) → answers_what w (looked.Content bytes) ≡ true → looked.Content bytes ≡ served_content w content → (found_in k s w content ≡ content_answer (asking.Look file w take) bytes) × (bytes ≡ content)
content_is k s file (what.Name component) take content bytes fits e = absurd (true_false (sym fits))
content_is k s file what.List take content bytes fits e = (ap (content_answer (asking.Look file what.List take)) (sym same), same)
  where
    same : bytes ≡ content
    same = cc
content_is k s file what.Stat take content bytes fits e = absurd (true_false (sym fits))
content_is k s file (what.Whole asked) take content bytes fits e = (refl, cc)

-- ---- what a mend has brought ----

-- the answer brings no content
abbrev pub NoContent : Answer → Type 0
NoContent answer.Brought = ⊥
NoContent _ = Unit {0}

brought_kept : (ss : List Stamp) (xs : List Answer) (a : Answer) → NoContent a → brought_of ss (xs ++ a ∷ []) ≡ brought_of ss xs
brought_kept [] xs a no_content = refl
brought_kept (s ∷ ss) [] answer.Brought no_content = absurd no_content
brought_kept (s ∷ ss) [] _ no_content = refl
brought_kept (s ∷ ss) (answer.Brought ∷ xs) a no_content = ap (λ (ys : List Stamp). s ∷ ys) (brought_kept ss xs a no_content)
brought_kept (s ∷ ss) (_ ∷ xs) a no_content = refl

taken_kept : (xs : List Answer) (a : Answer) → NoContent a → taken_whole (xs ++ a ∷ []) ≡ taken_whole xs
taken_kept [] (answer.Merging inst []) no_content = refl
taken_kept [] (answer.Merging inst (s ∷ ss)) no_content = refl
taken_kept [] _ no_content = refl
taken_kept (answer.Merging inst kept ∷ xs) a no_content = brought_kept kept xs a no_content
taken_kept (_ ∷ xs) a no_content = refl

map_last : {A B : Type 0} (g : A → B) (xs : List A) (x : A) → map g (xs ++ x ∷ []) ≡ map g xs ++ g x ∷ []
map_last g [] x = refl
map_last g (y ∷ ys) x = ap (λ (zs : List _). g y ∷ zs) (map_last g ys x)

-- ---- the call that asked ----

record IsAsked (w : WaitingCall) (n request times : ℕ) (a : LookAnswer) : Type 0 where
  file : FileId
  what : What
  asking_is : w.asking ≡ asking.Look file what times
  call_is : w.call ≡ n
  request_is : w.request ≡ request
  fits : answers_what what a ≡ true

is_asked : (w : WaitingCall) (n request times : ℕ) (a : LookAnswer) → asks_take n request times a w ≡ true → IsAsked w n request times a
is_asked w n request times a test = over w.asking refl test
  where
    four : (p q r s : Bool) → (p && (q && (r && s))) ≡ true → (p ≡ true) × (q ≡ true) × (r ≡ true) × (s ≡ true)
    four true true true true e = (refl, refl, refl, refl)
    four true true true false e = absurd (true_false (sym e))
    four true true false s e = absurd (true_false (sym e))
    four true false r s e = absurd (true_false (sym e))
    four false q r s e = absurd (true_false (sym e))

    none : (p q : Bool) → (p && (q && false)) ≡ true → ⊥
    none true true e = true_false (sym e)
    none true false e = true_false (sym e)
    none false q e = true_false (sym e)

    over : (s : Asking) → w.asking ≡ s → asks_take n request times a (record w { asking = s }) ≡ true → IsAsked w n request times a
    over (asking.Look file asked t) e z = (let k : ((w.call == n) ≡ true) × ((w.request == request) ≡ true) × ((t == times) ≡ true) × (answers_what asked a ≡ true) = four (w.call == n) (w.request == request) (t == times) (answers_what asked a) z in
        record { file = file; what = asked; asking_is = e ∙ ap (asking.Look file asked) (equal t times k.2); call_is = equal w.call n k.0; request_is = equal w.request request k.1; fits = k.3 })
    over (asking.Open serial file m) e z = absurd (none (w.call == n) (w.request == request) z)
    over (asking.Op serial ss number o seen) e z = absurd (none (w.call == n) (w.request == request) z)
    over (asking.Close serial ss) e z = absurd (none (w.call == n) (w.request == request) z)

-- by the trace
look_asked : (c : Config) (t : List Line) (me : ℕ) (d : CallId) (y : Want) (file : FileId) (w : What) (times : ℕ) → AskingIs c t me d y (asking.Look file w times) → (y ≡ want.Look file w) × (times ≡ tries t d)
look_asked c t me d (want.Look g v) file w times z = (sym (ap (λ (x : FileId). want.Look x w) z.0 ∙ ap (want.Look g) z.1), z.2)
look_asked c t me d _ file w times z = absurd z

same_what : (f g : FileId) (v w : What) → want.Look f v ≡ want.Look g w → (f ≡ g) × (v ≡ w)
same_what f g v w e = (cc, cc)

-- ---- a look is answered ----

module _ (c : Config) (n : ℕ) (t : List Line) (f : Frame) (u : Users) (h : IsFollowed c t) (frame : FrameFact c t f) (k : UsersInside c f t u) where
  pub fact_of : (w : WaitingCall) → Among w u.waiting → WaitingFact c t f w
  fact_of w among = every_among (WaitingFact c t f) w u.waiting among k.inside.calls

  log_so : (w : WaitingCall) (ans : Answer) → log (With n (takes_record f w ans) t) (it f w) ≡ log t (it f w) ++ ans ∷ []
  log_so w ans = ap (λ (b : Bool). cond b (log t (it f w) ++ ans ∷ []) (log t (it f w))) (same_call_own (it f w))

  -- an answer that opens nothing and closes nothing is taken, and its call goes on
  pub takes_so : (w : WaitingCall) (ans : Answer) (bs : List (List ℕ)) → Among w u.waiting → Waits c t (it f w) ans → had_by (asked_now c t (it f w)) ans (had c t f.me) ≡ had c t f.me → BringsFor c (With n (takes_record f w ans) t) (it f w) w.words bs →
      Staying c n t (takes_answer f (record w { brought = bs }) ans u).told → UsersFine c n t f (takes_answer f (record w { brought = bs }) ans u)
  takes_so w ans bs among waits keeps brings staying = takes_fine c n t f w u ans h frame k among waits stay bs
      (goes_fine c n (With n (takes_record f w ans) t) f (with_answer (record w { brought = bs }) ans) u (again c n t f w u ans h frame k among waits stay) (frame_so c n t f w u ans h frame k among waits stay) (plain_turns c n t f w u ans h frame k among waits stay bs brings keeps) next.0.requests next.0.replies next.1)
    where
      next : Follows c t (With n (takes_record f w ans) t) (takes_record f w ans) × Staying c n (With n (takes_record f w ans) t) (goes_on f (with_answer (record w { brought = bs }) ans) u).told
      next = staying (may_take c t f w ans (fact_of w among) waits)

      stay : AllStay c t (With n (takes_record f w ans) t) (takes_record f w ans)
      stay = next.0.stay

  pub brings_kept : (w : WaitingCall) (ans : Answer) → NoContent ans → (words : Call) (contents : List (List ℕ)) → BringsFor c t (it f w) words contents → BringsFor c (With n (takes_record f w ans) t) (it f w) words contents
  brings_kept w ans no_content (call.Mend file) contents z = subst (λ (ss : List Stamp). Brings c (With n (takes_record f w ans) t) file ss contents) (sym (ap taken_whole (log_so w ans) ∙ taken_kept (log t (it f w)) ans no_content)) (record { stand = z.stand; contents_are = z.contents_are })
  brings_kept w ans no_content _ contents z = z

  pub takes_plain : (w : WaitingCall) (ans : Answer) → NoContent ans → Among w u.waiting → Waits c t (it f w) ans → had_by (asked_now c t (it f w)) ans (had c t f.me) ≡ had c t f.me → Staying c n t (takes_answer f w ans u).told → UsersFine c n t f (takes_answer f w ans u)
  takes_plain w ans no_content among waits keeps staying = takes_so w ans w.brought among waits keeps (brings_kept w ans no_content w.words w.brought (fact_of w among).brings) staying

  module _ (steady : Steady c t) (looks : LookRests c t) (number request times : ℕ) (a : LookAnswer) (l : LookDoneFact c t f.epoch f.me f.boot number request times a) (w : WaitingCall) (among : Among w u.waiting) (z : IsAsked w number request times a) where
    who : it f w ≡ l.call
    who = ap (λ (m : ℕ). own_call f.me f.boot m) z.call_is ∙ sym l.call_is

    was : WasLooked t f.epoch (it f w) request times l.file l.what l.result
    was = subst (λ (y : CallId). WasLooked t f.epoch y request times l.file l.what l.result) (sym who) l.looked_so

    by_trace : ((fact_of w among).wanted ≡ want.Look z.file z.what) × (times ≡ tries t (it f w))
    by_trace = look_asked c t f.me (it f w) (fact_of w among).wanted z.file z.what times (subst (AskingIs c t f.me (it f w) (fact_of w among).wanted) z.asking_is (fact_of w among).asking_is)

    wants_it : asked_now c t (it f w) ≡ want.Look z.file z.what
    wants_it = ap (script c (entries t) (it f w) None) (sym (fact_of w among).answers_are) ∙ ((fact_of w among).script_is ∙ by_trace.0)

    so : LooksSo c t (it f w) l.file l.what l.result
    so = looks_so c t h steady looks.stands f.epoch (it f w) request times l.file l.what l.result was (sym z.request_is ∙ ((fact_of w among).request_is ∙ ap (λ (xs : List Answer). length xs + 1) (fact_of w among).answers_are)) by_trace.1

    same : (l.file ≡ z.file) × (l.what ≡ z.what)
    same = same_what l.file z.file l.what z.what (sym so.asked ∙ wants_it)

    waits_so : (ans : Answer) → look_answer c (entries t) l.file l.what l.result ≡ ans → Waits c t (it f w) ans
    waits_so ans e = so.waits ∙ ap (λ (y : Answer). log t (it f w) ++ y ∷ []) e

    -- a look closes nothing
    keeps : (ans : Answer) → ((old : List ℕ) → had_by (want.Look z.file z.what) ans old ≡ old) → had_by (asked_now c t (it f w)) ans (had c t f.me) ≡ had c t f.me
    keeps ans e = ap (λ (v : Want). had_by v ans (had c t f.me)) wants_it ∙ e (had c t f.me)

  -- ---- each answer ----

  on_it : (steady : Steady c t) (looks : LookRests c t) (number request times : ℕ) (a : LookAnswer) (l : LookDoneFact c t f.epoch f.me f.boot number request times a) (w : WaitingCall) (among : Among w u.waiting) (z : IsAsked w number request times a) →
      Staying c n t (takes_look f w a u).told → UsersFine c n t f (takes_look f w a u)
  on_it steady looks number request times (looked.Found ino kind) l w among z staying = takes_plain w (answer.Entered ino kind) tt among (waits_so steady looks number request times (looked.Found ino kind) l w among z (answer.Entered ino kind) (got l.result l.answer)) (keeps steady looks number request times (looked.Found ino kind) l w among z (answer.Entered ino kind) (λ old. refl)) staying
    where
      got : (r : Served) → LookAnswers c t l.file l.what r (looked.Found ino kind) → look_answer c (entries t) l.file l.what r ≡ answer.Entered ino kind
      got (served.At s) y = entered_is (kind_of_file c (entries t) l.file) s l.what (content_of (history c (entries t)) l.file s) ino kind y.1
      got (served.No why) y = cc
  on_it steady looks number request times (looked.No why) l w among z staying = takes_plain w (answer.Refused why) tt among (waits_so steady looks number request times (looked.No why) l w among z (answer.Refused why) (got l.result l.answer)) (keeps steady looks number request times (looked.No why) l w among z (answer.Refused why) (λ old. refl)) staying
    where
      got : (r : Served) → LookAnswers c t l.file l.what r (looked.No why) → look_answer c (entries t) l.file l.what r ≡ answer.Refused why
      got (served.At s) y = refused_is (kind_of_file c (entries t) l.file) s l.what (content_of (history c (entries t)) l.file s) why y.1
      got (served.No reason) y = cc
  on_it steady looks number request times (looked.Stat kind size stamp) l w among z staying = takes_plain w (answer.Described kind size stamp) tt among (waits_so steady looks number request times (looked.Stat kind size stamp) l w among z (answer.Described kind size stamp) (got l.result l.answer)) (keeps steady looks number request times (looked.Stat kind size stamp) l w among z (answer.Described kind size stamp) (λ old. refl)) staying
    where
      got : (r : Served) → LookAnswers c t l.file l.what r (looked.Stat kind size stamp) → look_answer c (entries t) l.file l.what r ≡ answer.Described kind size stamp
      got (served.At s) y = ap (λ (v : What). found_in (kind_of_file c (entries t) l.file) s v (content_of (history c (entries t)) l.file s)) y.1.0
          ∙ (ap (λ (m : Kind). answer.Described m (length (content_of (history c (entries t)) l.file s)) s) (sym y.1.1)
          ∙ (ap (λ (m : ℕ). answer.Described kind m s) (sym y.1.2) ∙ ap (answer.Described kind size) (sym y.1.3)))
      got (served.No reason) y = cc
  on_it steady looks number request times looked.Moved l w among z staying = subst (λ (s : Asking). Staying c n t (looks_again f w s u).told → UsersFine c n t f (looks_again f w s u)) (sym z.asking_is) (λ s. again_fine c n t f w u z.file z.what times h frame k among may wants (s may).0.stay) staying
    where
      wants : asked_now c t (it f w) ≡ want.Look z.file z.what
      wants = wants_it steady looks number request times looked.Moved l w among z

      may : MayTell c t (again_record f w times)
      may = may_again c t f w z.file z.what times (look_answer c (entries t) l.file l.what l.result) (fact_of w among) (so steady looks number request times looked.Moved l w among z).waits wants (by_trace steady looks number request times looked.Moved l w among z).1
  on_it steady looks number request times (looked.Content bytes) l w among z staying = subst (λ (s : Asking). Staying c n t (takes_answer f (with_brought s bytes w) (content_answer s bytes) u).told → UsersFine c n t f (takes_answer f (with_brought s bytes w) (content_answer s bytes) u)) (sym z.asking_is) (over z.what refl z.fits) staying
    where
      both : (r : Served) → WasLooked t f.epoch (it f w) request times l.file l.what r → LookAnswers c t l.file l.what r (looked.Content bytes) → (look_answer c (entries t) l.file l.what r ≡ content_answer (asking.Look z.file z.what times) bytes) × ((stamp : Stamp) → z.what ≡ what.Whole stamp → Stands c t z.file stamp × (bytes ≡ content_of (history c (entries t)) z.file stamp))
      both (served.No why) was y = absurd (other y)
        where
          other : looked.Content bytes ≡ looked.No why → ⊥
          other e = cc
      both (served.At s) was y = (same_content.0 ∙ ap (λ (v : What). content_answer (asking.Look z.file v times) bytes) is.1, of_stamp)
        where
          is : (l.file ≡ z.file) × (l.what ≡ z.what)
          is = same steady looks number request times (looked.Content bytes) l w among z

          same_content : (found_in (kind_of_file c (entries t) l.file) s l.what (content_of (history c (entries t)) l.file s) ≡ content_answer (asking.Look z.file l.what times) bytes) × (bytes ≡ content_of (history c (entries t)) l.file s)
          same_content = content_is (kind_of_file c (entries t) l.file) s z.file l.what times (content_of (history c (entries t)) l.file s) bytes (subst (λ (v : What). answers_what v (looked.Content bytes) ≡ true) (sym is.1) z.fits) y.1

          of_stamp : (stamp : Stamp) → z.what ≡ what.Whole stamp → Stands c t z.file stamp × (bytes ≡ content_of (history c (entries t)) z.file stamp)
          of_stamp stamp e = (subst (λ (m : Stamp). Stands c t z.file m) one (subst (λ (g : FileId). Stands c t g s) is.0 y.0), same_content.1 ∙ (ap (λ (g : FileId). content_of (history c (entries t)) g s) is.0 ∙ ap (content_of (history c (entries t)) z.file) one))
            where
              one : s ≡ stamp
              one = looks.whole f.epoch (it f w) request times l.file stamp s (subst (λ (v : What). WasLooked t f.epoch (it f w) request times l.file v (served.At s)) (is.1 ∙ e) was)

      got : (look_answer c (entries t) l.file l.what l.result ≡ content_answer (asking.Look z.file z.what times) bytes) × ((stamp : Stamp) → z.what ≡ what.Whole stamp → Stands c t z.file stamp × (bytes ≡ content_of (history c (entries t)) z.file stamp))
      got = both l.result (was steady looks number request times (looked.Content bytes) l w among z) l.answer

      waits : (v : What) → z.what ≡ v → Waits c t (it f w) (content_answer (asking.Look z.file v times) bytes)
      waits v e = waits_so steady looks number request times (looked.Content bytes) l w among z (content_answer (asking.Look z.file v times) bytes) (got.0 ∙ ap (λ (v : What). content_answer (asking.Look z.file v times) bytes) e)

      over : (v : What) → z.what ≡ v → answers_what v (looked.Content bytes) ≡ true → Staying c n t (takes_answer f (with_brought (asking.Look z.file v times) bytes w) (content_answer (asking.Look z.file v times) bytes) u).told → UsersFine c n t f (takes_answer f (with_brought (asking.Look z.file v times) bytes w) (content_answer (asking.Look z.file v times) bytes) u)
      over (what.Name component) e fits s = absurd (true_false (sym fits))
      over what.Stat e fits s = absurd (true_false (sym fits))
      over what.List e fits s = takes_plain w (content_answer (asking.Look z.file what.List times) bytes) tt among (waits what.List e) (keeps steady looks number request times (looked.Content bytes) l w among z (content_answer (asking.Look z.file what.List times) bytes) (λ old. refl)) s
      over (what.Whole stamp) e fits s = takes_so w answer.Brought (w.brought ++ bytes ∷ []) among (waits (what.Whole stamp) e) (keeps steady looks number request times (looked.Content bytes) l w among z answer.Brought (λ old. refl)) brings s
        where
          fact : WaitingFact c t f w
          fact = fact_of w among

          mends : (fact.caller.words ≡ call.Mend z.file) × (taken_whole (log t (it f w) ++ answer.Brought ∷ []) ≡ taken_whole (log t (it f w)) ++ stamp ∷ [])
          mends = looks.wholes (it f w) fact.caller z.file stamp fact.named (wants_it steady looks number request times (looked.Content bytes) l w among z ∙ ap (want.Look z.file) e)

          words : w.words ≡ call.Mend z.file
          words = ap (λ (x : Waiting). x.words) (sym fact.caller_is) ∙ mends.0

          old : Brings c t z.file (taken_whole (log t (it f w))) w.brought
          old = subst (λ (y : Call). BringsFor c t (it f w) y w.brought) words fact.brings

          brings : BringsFor c (With n (takes_record f w answer.Brought) t) (it f w) w.words (w.brought ++ bytes ∷ [])
          brings = subst (λ (y : Call). BringsFor c (With n (takes_record f w answer.Brought) t) (it f w) y (w.brought ++ bytes ∷ [])) (sym words)
              (subst (λ (ss : List Stamp). Brings c (With n (takes_record f w answer.Brought) t) z.file ss (w.brought ++ bytes ∷ [])) (sym (ap taken_whole (log_so w answer.Brought) ∙ mends.1))
              (record { stand = every_added (Stands c t z.file) (taken_whole (log t (it f w))) stamp old.stand (got.1 stamp e).0; contents_are = ap (λ (xs : List (List ℕ)). xs ++ bytes ∷ []) old.contents_are ∙ (ap (λ (b : List ℕ). map (content_of (history c (entries t)) z.file) (taken_whole (log t (it f w))) ++ b ∷ []) (got.1 stamp e).1 ∙ sym (map_last (content_of (history c (entries t)) z.file) (taken_whole (log t (it f w))) stamp)) }))

  pub look_done_fine : (steady : Steady c t) (looks : LookRests c t) (number request times : ℕ) (a : LookAnswer) → LookDoneFact c t f.epoch f.me f.boot number request times a → Staying c n t (on_look_done f number request times a u).told → UsersFine c n t f (on_look_done f number request times a u)
  look_done_fine steady looks number request times a l staying = over (first_that (asks_take number request times a) u.waiting) refl staying
    where
      over : (o : Option WaitingCall) → first_that (asks_take number request times a) u.waiting ≡ o → Staying c n t (on_look_done_of f a o u).told → UsersFine c n t f (on_look_done_of f a o u)
      over None e s = record { told = tt; own = tt; view = k; sent = tt; written = tt }
      over (Some w) e s = on_it steady looks number request times a l w (first_found (asks_take number request times a) u.waiting w e).0 (is_asked w number request times a (first_found (asks_take number request times a) u.waiting w e).1) s
