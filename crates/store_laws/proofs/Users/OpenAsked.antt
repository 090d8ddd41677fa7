-- What an open was granted for is what its call asks still, while it is at the request that was granted; and so the answer that comes to its
-- site is what the grant tells.
use Rattle.std.proofs.Common.{◌≡◌, ℕ, ◌+◌, ◌≤◌, Bool, true, false, cond, List, [], ◌∷◌, ◌++◌, length, length-append, Option, Some, None, refl, sym, ◌∙◌, ap, subst, arith, ◌⊎◌, inl, inr}
use Rattle.role_steps.proofs.of_plain_facts.Tests.{true_false}
use Rattle.locus_ids.specs.declared.config.Config.{Config}
use Rattle.locus_ids.specs.declared.ids.CallId.{CallId}
use Rattle.locus_ids.specs.declared.ids.EpochId.{EpochId}
use Rattle.locus_ids.specs.declared.ids.FileId.{FileId}
use Rattle.locus_ids.specs.declared.ids.Mode.{Mode}
use Rattle.locus_ids.specs.declared.ids.Mode.TheVariants as mode
use Rattle.locus_ids.specs.declared.ids.Serial.{Serial}
use Rattle.locus_ids.specs.declared.ids.Stamp.{Stamp}
use Rattle.commit_graph.specs.Versions.{same_file}
use Rattle.trace_book.specs.declared.call.OpenMode.{OpenMode}
use Rattle.trace_book.specs.declared.call.OpenMode.TheVariants as opens
use Rattle.trace_book.specs.declared.descriptor.OneVersion.{OneVersion}
use Rattle.trace_book.specs.declared.operation.What.{What}
use Rattle.trace_book.specs.declared.record.Record.TheVariants as says
use Rattle.call_rules.specs.declared.answer.Answer.{Answer}
use Rattle.call_rules.specs.declared.answer.Answer.TheVariants as answer
use Rattle.call_rules.specs.declared.want.Want.{Want}
use Rattle.call_rules.specs.declared.want.Want.TheVariants as want
use Rattle.wire_messages.specs.declared.body.Opening.{Opening}
use Rattle.wire_messages.specs.declared.body.Opening.TheVariants as how
use Rattle.role_steps.specs.Opens.{stamp_or_none}
use Rattle.role_steps.specs.Requests.{opening_of}
use Rattle.role_steps.specs.Using.{asked_answer}
use Rattle.role_steps.specs.Views.{Frame, Told, Shown, Takes, LooksAgain}
use Rattle.role_steps.specs.declared.users.Asking.TheVariants as asking
use Rattle.tree_laws.specs.of_the_run.Worlds.{Line}
use Rattle.tree_laws.specs.of_lawful_trace.Progress.{granted_answer}
use Rattle.tree_laws.specs.of_lawful_trace.TreeRows.{is_open_of}
use Rattle.tree_laws.specs.Printed.{entries}
use Rattle.tree_laws.specs.Calls.{is_request, log, request_number, tries}
use Rattle.tree_laws.specs.Following.{IsFollowed, MayTell}
use Rattle.tree_laws.specs.Instances.{IsOpening}
use Rattle.tree_laws.specs.Packets.{serial_of}
use Rattle.tree_laws.specs.Past.{GrantRecord, Printed, WasGranted}
use Rattle.tree_laws.specs.Serials.{asked_now}
use Rattle.tree_laws.proofs.Asking.{Turns}
use Rattle.tree_laws.proofs.Counting.{asked_same}
use Rattle.tree_laws.proofs.Fresh.{IsNamed}
use Rattle.tree_laws.proofs.Hearing.{asking_named, asks_next}
use Rattle.tree_laws.proofs.Names.{same_call_own}
use Rattle.tree_laws.proofs.Orders.ProcessCurrent.{same_or_turns}
use Rattle.tree_laws.proofs.Orders.Standing.{same_file_eq}
use Rattle.store_laws.proofs.Users.OpenGrants.{TellsVersion}

abbrev With : ℕ → Told → List Line → List Line
With n x older = record { number = n; told = x } ∷ older

-- ---- opens alone are granted ----

look_none : (m : Mode) (f g : FileId) (w : What) → is_open_of m f (want.Look g w) ≡ false
look_none mode.Read f g w = refl
look_none mode.Write f g w = refl
look_none mode.Resolve f g w = refl
look_none mode.Mend f g w = refl
look_none mode.Make f g w = refl

do_none : (m : Mode) (f : FileId) (w : Want) → is_request w ≡ false → is_open_of m f w ≡ false
do_none m f (want.Give r) e = over m
  where
    over : (k : Mode) → is_open_of k f (want.Give r) ≡ false
    over mode.Read = refl
    over mode.Write = refl
    over mode.Resolve = refl
    over mode.Mend = refl
    over mode.Make = refl
do_none m f want.Never e = over m
  where
    over : (k : Mode) → is_open_of k f want.Never ≡ false
    over mode.Read = refl
    over mode.Write = refl
    over mode.Resolve = refl
    over mode.Mend = refl
    over mode.Make = refl
do_none m f _ e = absurd (true_false e)

open_request : (m : Mode) (f : FileId) (w : Want) → is_open_of m f w ≡ true → is_request w ≡ true
open_request m f w e = over (is_request w) refl
  where
    over : (b : Bool) → is_request w ≡ b → is_request w ≡ true
    over true k = k
    over false k = absurd (true_false (sym e ∙ do_none m f w k))

-- ---- it is asked still ----

-- the call has come to the request, and while it is at that it asks to open the file so
record Asks (c : Config) (t : List Line) (d : CallId) (request : ℕ) (m : Mode) (f : FileId) : Type 0 where
  come : request ≤ request_number t d
  asks : request_number t d ≡ request → is_open_of m f (asked_now c t d) ≡ true

asks_named : (c : Config) (t : List Line) (d : CallId) (m : Mode) (f : FileId) → is_open_of m f (asked_now c t d) ≡ true → IsNamed (entries t) d
asks_named c t d m f e = asking_named c (entries t) d None (log t d) (asked_now c t d) refl (open_request m f (asked_now c t d) e)

module _ (c : Config) (n : ℕ) (older : List Line) (d : CallId) (request : ℕ) (m : Mode) (f : FileId) (h : IsFollowed c older) where
  -- as long as it takes no answer
  asks_still : (x : Told) → MayTell c older x → log (With n x older) d ≡ log older d → Asks c older d request m f → Asks c (With n x older) d request m f
  asks_still x may same k = record {
    come = subst (λ (xs : List Answer). request ≤ length xs + 1) (sym same) k.come;
    asks = λ at. still (k.asks (ap (λ (xs : List Answer). length xs + 1) (sym same) ∙ at));
  }
    where
      still : is_open_of m f (asked_now c older d) ≡ true → is_open_of m f (asked_now c (With n x older) d) ≡ true
      still e = ap (is_open_of m f) (asked_same c older n x d h may (asks_named c older d m f e) same) ∙ e

  -- and once it takes one it is past that request
  asks_past : (x : Told) → MayTell c older x → Turns x d → Asks c older d request m f → Asks c (With n x older) d request m f
  asks_past (Takes s it number times a) may turn k = over (same_call_of turn)
    where
      same_call_of : it ≡ d → log (With n (Takes s it number times a) older) d ≡ log older d ++ a ∷ []
      same_call_of is = subst (λ (y : CallId). log (With n (Takes s it number times a) older) y ≡ log older y ++ a ∷ []) is (ap (λ (b : Bool). cond b (log older it ++ a ∷ []) (log older it)) (same_call_own it))

      over : log (With n (Takes s it number times a) older) d ≡ log older d ++ a ∷ [] → Asks c (With n (Takes s it number times a) older) d request m f
      over is =
          let more : length (log older d ++ a ∷ []) ≡ length (log older d) + 1 = length-append (log older d) (a ∷ []) in
          let now : length (log (With n (Takes s it number times a) older) d) ≡ length (log older d) + 1 = ap (λ (xs : List Answer). length xs) is ∙ more in
          let low : request ≤ length (log older d) + 1 = k.come in
          record { come = omega (arith, now, low); asks = λ at. absurd (past now low at) }
        where
          past : length (log (With n (Takes s it number times a) older) d) ≡ length (log older d) + 1 → request ≤ length (log older d) + 1 → length (log (With n (Takes s it number times a) older) d) + 1 ≡ request → ⊥
          past now low at = omega (arith, now, low, at)
  asks_past (LooksAgain s it number times) may turn k = asks_still (LooksAgain s it number times) may refl k
  asks_past x may turn k = absurd turn

  asks_on : (x : Told) → MayTell c older x → Asks c older d request m f → Asks c (With n x older) d request m f
  asks_on x may k = over (same_or_turns n x older d)
    where
      over : ((log (With n x older) d ≡ log older d) × (tries (With n x older) d ≡ tries older d)) ⊎ Turns x d → Asks c (With n x older) d request m f
      over (inl same) = asks_still x may same.0 k
      over (inr turn) = asks_past x may turn k

-- by the record of the grant
granted_here : (c : Config) (n : ℕ) (older : List Line) (x : Told) (e : EpochId) (d : CallId) (request : ℕ) (i : Serial) (m : Mode) (f : FileId) (stamp : Option Stamp) (ss : ℕ) → IsFollowed c older → MayTell c older x → Printed (GrantRecord e d request i m f stamp ss) older x → Asks c (With n x older) d request m f
granted_here c n older (Shown (says.Grant at call number inst md file on place)) e d request i m f stamp ss h may p =
    asks_still c n older d request m f h (Shown (says.Grant at call number inst md file on place)) may refl (record { come = subst (λ (k : ℕ). k ≤ request_number older d) number_is (omega arith); asks = λ at. asked })
  where
    number_is : request_number older d ≡ request
    number_is = ap (request_number older) (sym p.call_is) ∙ (sym may.in_time.opens.asks.request_is ∙ p.request_is)

    no_look : (g : FileId) (w : What) → may.in_time.opens.asks.wanted ≡ want.Look g w → ⊥
    no_look g w is = subst (λ (y : Want). IsOpening c y may.in_time.opens.asked may.in_time.opens.it) is may.in_time.opens.asks.opening_is

    asked_here : is_open_of md file (asked_now c older call) ≡ true
    asked_here = ap (is_open_of md file) (may.in_time.opens.asks.asks.asked ∙ sym (asks_next c older call may.in_time.opens.asks.wanted h may.in_time.opens.asks.asks no_look).0) ∙ may.row.opens.asked

    asked : is_open_of m f (asked_now c older d) ≡ true
    asked = subst (λ (k : Mode). is_open_of k f (asked_now c older d) ≡ true) p.mode_is (subst (λ (g : FileId). is_open_of md g (asked_now c older d) ≡ true) p.file_is (subst (λ (y : CallId). is_open_of md file (asked_now c older y) ≡ true) p.call_is asked_here))
granted_here c n older (Shown r) e d request i m f stamp ss h may p = absurd p
granted_here c n older x e d request i m f stamp ss h may p = absurd p

was_asked : (c : Config) (t : List Line) → IsFollowed c t → (e : EpochId) (d : CallId) (request : ℕ) (i : Serial) (m : Mode) (f : FileId) (stamp : Option Stamp) (ss : ℕ) → WasGranted t e d request i m f stamp ss → Asks c t d request m f
was_asked c [] h e d request i m f stamp ss was = absurd was
was_asked c (x ∷ older) h e d request i m f stamp ss (inl now) = granted_here c x.number older x.told e d request i m f stamp ss h.1 h.0 now
was_asked c (x ∷ older) h e d request i m f stamp ss (inr was) = asks_on c x.number older d request m f h.1 x.told h.0 (was_asked c older h.1 e d request i m f stamp ss was)

pub granted_asked : (c : Config) (t : List Line) → IsFollowed c t → (e : EpochId) (d : CallId) (request : ℕ) (i : Serial) (m : Mode) (f : FileId) (stamp : Option Stamp) (ss : ℕ) → WasGranted t e d request i m f stamp ss → request_number t d ≡ request → is_open_of m f (asked_now c t d) ≡ true
granted_asked c t h e d request i m f stamp ss was at = (was_asked c t h e d request i m f stamp ss was).asks at

-- ---- what the site is answered is what the grant tells ----

module _ (fr : Frame) (serial ino : ℕ) (told : Stamp) (f g : FileId) (stamp : Option Stamp) (kept : List Stamp) (number_is : f.ino ≡ ino) (told_is : told ≡ stamp_or_none stamp) where
  abbrev IsTold : Mode → Opening → Type 0
  IsTold m it = granted_answer m (serial_of fr.me serial) f stamp kept ≡ asked_answer fr serial ino told (asking.Open serial g it)

  plainly : ◌≡◌ {A = Answer} (answer.Opened (serial_of fr.me serial) f.ino) (answer.Opened (serial_of fr.me serial) ino)
  plainly = ap (answer.Opened (serial_of fr.me serial)) number_is

  reading : (o : Option Stamp) → stamp ≡ o → TellsVersion mode.Read o → f ≡ g → granted_answer mode.Read (serial_of fr.me serial) f o kept ≡ asked_answer fr serial ino told (asking.Open serial g how.Read)
  reading None is tells same = absurd (none tells.1)
    where
      none : ◌≡◌ {A = Option Stamp} None (Some tells.0) → ⊥
      none k = cc
  reading (Some s) is tells same =
      ap (λ (y : FileId). answer.Reading (serial_of fr.me serial) (record { file = y; stamp = s })) same
      ∙ ap (λ (z : Stamp). answer.Reading (serial_of fr.me serial) (record { file = g; stamp = z })) (sym (told_is ∙ ap stamp_or_none is))

  by_file : (m : Mode) (a : FileId) (om : OpenMode) → TellsVersion m stamp → is_open_of m f (want.Open a om) ≡ true → g ≡ a → IsTold m (opening_of om)
  by_file mode.Read a opens.Read tells e is = reading stamp refl tells (sym (is ∙ same_file_eq a f e))
  by_file mode.Read a opens.Steady tells e is = reading stamp refl tells (sym (is ∙ same_file_eq a f e))
  by_file mode.Read a opens.Write tells e is = absurd (true_false (sym e))
  by_file mode.Read a (opens.Resolve site) tells e is = absurd (true_false (sym e))
  by_file mode.Write a opens.Write tells e is = plainly
  by_file mode.Write a opens.Read tells e is = absurd (true_false (sym e))
  by_file mode.Write a opens.Steady tells e is = absurd (true_false (sym e))
  by_file mode.Write a (opens.Resolve site) tells e is = absurd (true_false (sym e))
  by_file mode.Resolve a (opens.Resolve site) tells e is = plainly
  by_file mode.Resolve a opens.Read tells e is = absurd (true_false (sym e))
  by_file mode.Resolve a opens.Steady tells e is = absurd (true_false (sym e))
  by_file mode.Resolve a opens.Write tells e is = absurd (true_false (sym e))
  by_file mode.Mend a om tells e is = absurd (true_false (sym e))
  by_file mode.Make a om tells e is = absurd (true_false (sym e))

  -- any other open than a mend's is answered what its grant tells
  pub told_so : (c : Config) (m : Mode) (w : Want) (it : Opening) → (m ≡ mode.Mend → ⊥) → TellsVersion m stamp → is_open_of m f w ≡ true → IsOpening c w g it → IsTold m it
  told_so c m (want.Open a om) it plain tells e o = subst (IsTold m) (sym o.1) (by_file m a om tells e o.0)
  told_so c mode.Mend (want.OpenToMend a) it plain tells e o = absurd (plain refl)
  told_so c mode.Read (want.OpenToMend a) it plain tells e o = absurd (true_false (sym e))
  told_so c mode.Write (want.OpenToMend a) it plain tells e o = absurd (true_false (sym e))
  told_so c mode.Resolve (want.OpenToMend a) it plain tells e o = absurd (true_false (sym e))
  told_so c mode.Make (want.OpenToMend a) it plain tells e o = absurd (true_false (sym e))
  told_so c mode.Make (want.Make group kind sites) it plain tells e o = subst (IsTold mode.Make) (sym o.2) plainly
  told_so c mode.Read (want.Make group kind sites) it plain tells e o = absurd (true_false (sym e))
  told_so c mode.Write (want.Make group kind sites) it plain tells e o = absurd (true_false (sym e))
  told_so c mode.Resolve (want.Make group kind sites) it plain tells e o = absurd (true_false (sym e))
  told_so c mode.Mend (want.Make group kind sites) it plain tells e o = absurd (plain refl)
  told_so c m w it plain tells e o = absurd o
