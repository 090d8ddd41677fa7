-- Which call an operation or a close of an instance is a step of stays, while the call asks it.
use Rattle.std.proofs.Common.{◌≡◌, ℕ, suc, ◌≤◌, ◌==◌, Bool, true, false, not, cond, ◌&&◌, ◌||◌, List, [], ◌∷◌, length, Option, Some, None, refl, sym, ◌∙◌, ap, subst, arith, inl, inr}
use Rattle.std.proofs.lemmas.Bool.Decides.{nat_tests}
use Rattle.the_run.proofs.of_plain_facts.Options.{none_some, some_same}
use Rattle.the_run.proofs.of_plain_facts.Tests.{true_false}
use Rattle.locus_ids.specs.declared.config.Config.{Config}
use Rattle.locus_ids.specs.declared.ids.CallId.{CallId}
use Rattle.locus_ids.specs.declared.ids.EpochId.{EpochId}
use Rattle.locus_ids.specs.declared.ids.Serial.{Serial}
use Rattle.trace_book.specs.Same.{same_call, same_epoch, same_serial}
use Rattle.trace_book.specs.declared.call.Call.{Call}
use Rattle.trace_book.specs.declared.call.Call.TheVariants as call
use Rattle.trace_book.specs.declared.descriptor.Beginning.{Beginning}
use Rattle.trace_book.specs.declared.descriptor.Beginning.TheVariants as begins
use Rattle.trace_book.specs.declared.operation.Op.{Op}
use Rattle.trace_book.specs.declared.record.Record.{Record}
use Rattle.trace_book.specs.declared.record.Record.TheVariants as says
use Rattle.trace_book.specs.declared.reply.Reply.{Reply}
use Rattle.trace_book.specs.declared.reply.Reply.TheVariants as reply
use Rattle.call_rules.specs.declared.want.Want.{Want}
use Rattle.call_rules.specs.declared.want.Want.TheVariants as want
use Rattle.the_run.specs.of_role_steps.Views.{Told, Shown}
use Rattle.the_run.specs.Worlds.{Line}
use Rattle.lawful_trace.specs.of_tree_model.Calls.{granted_to, opening_of}
use Rattle.lawful_trace.specs.of_tree_model.Folds.{Trace}
use Rattle.lawful_trace.specs.Tables.{begins_now, is_close, uses_by, uses_of, use_number, close_of, is_opening, names_instance, has_named, unless_named, call_of_act, call_of_release}
use Rattle.tree_laws.specs.Printed.{entries, onto_entries}
use Rattle.tree_laws.specs.Calls.{Asks, is_request}
use Rattle.tree_laws.specs.Past.{WasNamed}
use Rattle.tree_laws.specs.Following.{MayTell, AnswersInTime, AcceptsInTime, RepliesNaming}
use Rattle.tree_laws.proofs.Names.{same_call_eq, same_epoch_eq, same_serial_eq}

-- ---- what was granted was named ----

pub granted_named : (trace : List Line) (e : EpochId) (i : Serial) (g : CallId) → granted_to (entries trace) e i ≡ Some g → WasNamed trace e i
granted_named [] e i g k = absurd (none_some g k)
granted_named (y ∷ older) e i g k = over (λ z. granted_named older e i g z) y.told k
  where
    over : (granted_to (entries older) e i ≡ Some g → WasNamed older e i) → (z : Told) → granted_to (onto_entries y.number z (entries older)) e i ≡ Some g → WasNamed (record { number = y.number; told = z } ∷ older) e i
    over later (Shown (says.Grant at d request inst m f stamp ss)) k = at_it (same_epoch at e) (same_serial inst i) refl refl k
      where
        at_it : (a b : Bool) → same_epoch at e ≡ a → same_serial inst i ≡ b → cond (a && b) (Some d) (granted_to (entries older) e i) ≡ Some g → WasNamed (record { number = y.number; told = Shown (says.Grant at d request inst m f stamp ss) } ∷ older) e i
        at_it true true p q k = inl (record { epoch_is = same_epoch_eq at e p; serial_is = same_serial_eq inst i q })
        at_it true false p q k = inr (later k)
        at_it false b p q k = inr (later k)
    over later _ k = inr (later k)

-- ---- uses are numbered for good ----

number_low : (xs : List CallId) (n : ℕ) (d : CallId) → use_number xs n ≡ Some d → n ≤ length xs
number_low [] n d e = absurd (none_some d e)
number_low (c ∷ xs) n d e = at (number_low xs n d) (n == suc (length xs)) refl e
  where
    here : (m k : ℕ) → (n == suc m) ≡ true → n ≤ suc m
    here m k t = grind (arith, nat_tests)

    at : (use_number xs n ≡ Some d → n ≤ length xs) → (b : Bool) → (n == suc (length xs)) ≡ b → cond b (Some c) (use_number xs n) ≡ Some d → n ≤ suc (length xs)
    at later true t e = here (length xs) 0 t
    at later false t e = (let low : n ≤ length xs = later e in omega (arith, low))

number_more : (c : CallId) (xs : List CallId) (n : ℕ) (d : CallId) → use_number xs n ≡ Some d → use_number (c ∷ xs) n ≡ Some d
number_more c xs n d e = at (n == suc (length xs)) refl
  where
    not_last : (m : ℕ) → n ≤ m → (n == suc m) ≡ true → ⊥
    not_last m le t = grind (arith, nat_tests)

    at : (b : Bool) → (n == suc (length xs)) ≡ b → cond b (Some c) (use_number xs n) ≡ Some d
    at true t = absurd (not_last (length xs) (number_low xs n d e) t)
    at false t = e

-- ---- a reply names an instance: an open's, or that of a read that has opened a version again ----

pub naming_reply : (c : Config) (older : List Line) (d : CallId) (r : Reply) → AnswersInTime c older d r → names_instance r ≡ true → RepliesNaming c older d r
naming_reply c older d (reply.Opened fd) t e = t
naming_reply c older d (reply.Data bytes) t e = t
naming_reply c older d _ t e = absurd (true_false (sym e))

-- who asks something still isn't answered so
asker_unanswered : (c : Config) (older : List Line) (d : CallId) (r : Reply) (w : Want) → Asks c older d w → RepliesNaming c older d r → ⊥
asker_unanswered c older d r w k t = true_false (sym (subst (λ (v : Want). is_request v ≡ true) (sym k.asked) k.request) ∙ t.replies.nothing_asked)

-- who has named what is as it was, or the call that was granted it is answered so
pub named_record : (c : Config) (older : List Line) (n : ℕ) (r : Record) (d : CallId) (w : Want) → MayTell c older (Shown r) → Asks c older d w → has_named (record { line = n; what = r } ∷ entries older) d ≡ has_named (entries older) d
named_record c older n (says.Answer s process other r) d w may k = at (same_call other d) (names_instance r) refl refl
  where
    at : (a b : Bool) → same_call other d ≡ a → names_instance r ≡ b → (a && b || has_named (entries older) d) ≡ has_named (entries older) d
    at true true p q = absurd (asker_unanswered c older d r w k (naming_reply c older d r (subst (λ (y : CallId). AnswersInTime c older y r) (same_call_eq other d p) may.in_time) q))
    at true false p q = refl
    at false b p q = refl
named_record c older n _ d w may k = refl

pub named_more : (n : ℕ) (r : Record) (before : Trace) (d : CallId) → has_named before d ≡ true → has_named (record { line = n; what = r } ∷ before) d ≡ true
named_more n (says.Answer s process other r) before d h = at (same_call other d && names_instance r)
  where
    at : (a : Bool) → (a || has_named before d) ≡ true
    at true = refl
    at false = h
named_more n _ before d h = h

-- ---- what may be granted, used or closed ----

pub granted_same : (c : Config) (older : List Line) (n : ℕ) (r : Record) (e : EpochId) (i : Serial) (g : CallId) → MayTell c older (Shown r) → granted_to (entries older) e i ≡ Some g → granted_to (record { line = n; what = r } ∷ entries older) e i ≡ Some g
granted_same c older n (says.Grant at d request inst m f stamp ss) e i g may k = at_it (same_epoch at e) (same_serial inst i) refl refl
  where
    at_it : (a b : Bool) → same_epoch at e ≡ a → same_serial inst i ≡ b → cond (a && b) (Some d) (granted_to (entries older) e i) ≡ Some g
    at_it true true p q = absurd (may.in_time.new (subst (λ (y : Serial). WasNamed older at y) (sym (same_serial_eq inst i q)) (subst (λ (y : EpochId). WasNamed older y i) (sym (same_epoch_eq at e p)) (granted_named older e i g k))))
    at_it true false p q = k
    at_it false b p q = k
granted_same c older n _ e i g may k = k

pub used_same : (n : ℕ) (r : Record) (before : Trace) (e : EpochId) (i : Serial) (k : ℕ) (d : CallId) → use_number (uses_of before e i) k ≡ Some d → use_number (uses_of (record { line = n; what = r } ∷ before) e i) k ≡ Some d
used_same n (says.Accept s process new words) before e i k d h = at (not (is_close words) && uses_by (begins_now before s process new words) e i)
  where
    at : (b : Bool) → use_number (cond b (new ∷ uses_of before e i) (uses_of before e i)) k ≡ Some d
    at true = number_more new (uses_of before e i) k d h
    at false = h
used_same n (says.Answer s process call (reply.Data bytes)) before e i k d h = at (is_opening (opening_of before call) e i)
  where
    at : (b : Bool) → use_number (cond b (call ∷ uses_of before e i) (uses_of before e i)) k ≡ Some d
    at true = number_more call (uses_of before e i) k d h
    at false = h
used_same n _ before e i k d h = h

-- a second close of an instance is never accepted
closed_again : (before : Trace) (words : Call) (b : Beginning) (e : EpochId) (i : Serial) (d : CallId) → AcceptsInTime before words b → close_of before e i ≡ Some d → is_close words && uses_by b e i ≡ true → ⊥
closed_again before (call.Close fd) (begins.Uses at inst) e i d t h k = parts (same_epoch at e) (same_serial inst i) refl refl k
  where
    parts : (x y : Bool) → same_epoch at e ≡ x → same_serial inst i ≡ y → x && y ≡ true → ⊥
    parts true true p q k = none_some d (sym (subst (λ (j : Serial). close_of before e j ≡ None) (same_serial_eq inst i q) (subst (λ (y : EpochId). close_of before y inst ≡ None) (same_epoch_eq at e p) t.first)) ∙ h)
    parts true false p q k = true_false (sym k)
    parts false y p q k = true_false (sym k)
closed_again before (call.Close fd) (begins.Denied why) e i d t h k = true_false (sym k)
closed_again before (call.Close fd) (begins.Walks id) e i d t h k = true_false (sym k)
closed_again before (call.Close fd) (begins.Reopens version last) e i d t h k = true_false (sym k)
closed_again before (call.Close fd) begins.Frees e i d t h k = true_false (sym k)
closed_again before _ b e i d t h k = true_false (sym k)

pub closed_same : (c : Config) (older : List Line) (n : ℕ) (r : Record) (e : EpochId) (i : Serial) (d : CallId) → MayTell c older (Shown r) → close_of (entries older) e i ≡ Some d → close_of (record { line = n; what = r } ∷ entries older) e i ≡ Some d
closed_same c older n (says.Accept s process new words) e i d may h = at (is_close words && uses_by (begins_now (entries older) s process new words) e i) refl
  where
    at : (b : Bool) → is_close words && uses_by (begins_now (entries older) s process new words) e i ≡ b → cond b (Some new) (close_of (entries older) e i) ≡ Some d
    at true k = absurd (closed_again (entries older) words (begins_now (entries older) s process new words) e i d may.in_time h k)
    at false k = h
closed_same c older n _ e i d may h = h

-- ---- the owner ----

-- the owner is the call that was granted the instance, or the one that uses it by its descriptor
owner_same : (c : Config) (older : List Line) (n : ℕ) (r : Record) (e : EpochId) (i : Serial) (d : CallId) (w : Want) (user later : Option CallId) → MayTell c older (Shown r) → Asks c older d w → (user ≡ Some d → later ≡ Some d) →
    (o : Option CallId) → granted_to (entries older) e i ≡ o → unless_named (entries older) user o ≡ Some d → unless_named (record { line = n; what = r } ∷ entries older) later (granted_to (record { line = n; what = r } ∷ entries older) e i) ≡ Some d
owner_same c older n r e i d w user later may k more None g h = absurd (none_some d h)
owner_same c older n r e i d w user later may k more (Some granted) g h =
    ap (unless_named (record { line = n; what = r } ∷ entries older) later) (granted_same c older n r e i granted may g) ∙ at (has_named (entries older) granted) refl h
  where
    at : (b : Bool) → has_named (entries older) granted ≡ b → cond b user (Some granted) ≡ Some d → cond (has_named (record { line = n; what = r } ∷ entries older) granted) later (Some granted) ≡ Some d
    at true e h = ap (λ (b : Bool). cond b later (Some granted)) (named_more n r (entries older) granted e) ∙ more h
    at false e h = (let same : granted ≡ d = some_same granted d h in
        ap (λ (b : Bool). cond b later (Some granted)) (named_record c older n r granted w may (subst (λ (y : CallId). Asks c older y w) (sym same) k) ∙ e) ∙ ap Some same)

pub act_owner_stays : (c : Config) (older : List Line) (n : ℕ) (x : Told) → MayTell c older x → (e : EpochId) (i : Serial) (number : ℕ) (d : CallId) (o : Op) → Asks c older d (want.Do i o) → call_of_act (entries older) e i number ≡ Some d → call_of_act (onto_entries n x (entries older)) e i number ≡ Some d
act_owner_stays c older n (Shown r) may e i number d o k h = owner_same c older n r e i d (want.Do i o) (use_number (uses_of (entries older) e i) number) (use_number (uses_of (record { line = n; what = r } ∷ entries older) e i) number) may k (used_same n r (entries older) e i number d) (granted_to (entries older) e i) refl h
act_owner_stays c older n _ may e i number d o k h = h

pub release_owner_stays : (c : Config) (older : List Line) (n : ℕ) (x : Told) → MayTell c older x → (e : EpochId) (i : Serial) (d : CallId) → Asks c older d (want.Close i) → call_of_release (entries older) e i ≡ Some d → call_of_release (onto_entries n x (entries older)) e i ≡ Some d
release_owner_stays c older n (Shown r) may e i d k h = owner_same c older n r e i d (want.Close i) (close_of (entries older) e i) (close_of (record { line = n; what = r } ∷ entries older) e i) may k (closed_same c older n r e i d may) (granted_to (entries older) e i) refl h
release_owner_stays c older n _ may e i d k h = h
