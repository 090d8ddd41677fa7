-- An instance is that of one descriptor at most, and of none once a close of it was accepted.
use Rattle.std.proofs.Common.{◌≡◌, ℕ, ◌==◌, Bool, true, false, cond, ◌&&◌, List, [], ◌∷◌, Option, Some, None, refl, sym, ◌∙◌, ap, subst, ◌⊎◌, inl, inr}
use Rattle.plain_facts.proofs.Numbers.{equal, equal_self}
use Rattle.plain_facts.proofs.Options.{none_some, some_same}
use Rattle.plain_facts.proofs.Tests.{true_false}
use Rattle.locus_ids.specs.declared.config.Config.{Config}
use Rattle.locus_ids.specs.declared.ids.CallId.{CallId}
use Rattle.locus_ids.specs.declared.ids.EpochId.{EpochId}
use Rattle.locus_ids.specs.declared.ids.Serial.{Serial}
use Rattle.trace_book.specs.Same.{same_call}
use Rattle.trace_book.specs.declared.call.Call.{Call}
use Rattle.trace_book.specs.declared.call.Call.TheVariants as call
use Rattle.trace_book.specs.declared.descriptor.Descriptor.{Descriptor}
use Rattle.trace_book.specs.declared.record.Record.{Record}
use Rattle.trace_book.specs.declared.record.Record.TheVariants as says
use Rattle.trace_book.specs.declared.reply.Reply.{Reply}
use Rattle.trace_book.specs.declared.reply.Reply.TheVariants as reply
use Rattle.role_steps.specs.Own.{Every}
use Rattle.role_steps.specs.Views.{Told, Shown}
use Rattle.the_run.specs.Worlds.{Line}
use Rattle.tree_model.specs.declared.accepted.Waiting.{Waiting}
use Rattle.tree_model.specs.Calls.{granted_to, opening_of, waiting}
use Rattle.tree_model.specs.Epochs.{epoch_of}
use Rattle.tree_model.specs.Folds.{Trace}
use Rattle.lawful_trace.specs.CallRows.{is_this}
use Rattle.lawful_trace.specs.Tables.{begins_now, closed_by, opened_by, descriptor, is_close, is_opening, uses_by, uses_of, close_of, has_named}
use Rattle.tree_laws.specs.Printed.{entries, onto_entries}
use Rattle.tree_laws.specs.Following.{MayTell, IsFollowed}
use Rattle.tree_laws.proofs.Answered.{all_done}
use Rattle.tree_laws.proofs.Boots.{found_every}
use Rattle.tree_laws.proofs.Descriptors.{GrantedFor, FromDescriptor, IsUser, closed_left, opening_is, stand_for, uses_from, uses_is, are_users}
use Rattle.tree_laws.proofs.Naming.{IsNamedBy, all_opening, named_granted, one_number, opened_left}
use Rattle.tree_laws.proofs.Names.{same_call_eq}

abbrev With : ℕ → Record → Trace → Trace
With n r before = record { line = n; what = r } ∷ before

-- ---- a call that is answered now has named nothing before ----

third : (p q b : Bool) → (p && q && b) ≡ true → b ≡ true
third p q true t = refl
third true true false t = absurd (true_false (sym t))
third true false false t = absurd (true_false (sym t))
third false q false t = absurd (true_false (sym t))

pub waiting_unnamed : (c : Config) (older : List Line) (s process : ℕ) (d : CallId) (r : Reply) → IsFollowed c older → MayTell c older (Shown (says.Answer s process d r)) → has_named (entries older) d ≡ true → ⊥
waiting_unnamed c older s process d r h may t = found.0 (same_call_eq may.row.caller.call d (third (may.row.caller.site == s) (may.row.caller.process == process) (same_call may.row.caller.call d) found.1))
  where
    found : (may.row.caller.call ≡ d → ⊥) × (is_this s process d may.row.caller ≡ true)
    found = found_every (λ (w : Waiting). w.call ≡ d → ⊥) (is_this s process d) (waiting (entries older)) may.row.caller may.row.waits (all_done c older h d t).over.quiet

-- what a read has opened again was used by nobody before it
pub first_use : (c : Config) (older : List Line) (s process : ℕ) (d : CallId) (bytes : List ℕ) (e : EpochId) (i : Serial) → IsFollowed c older → MayTell c older (Shown (says.Answer s process d (reply.Data bytes))) → is_opening (opening_of (entries older) d) e i ≡ true → uses_of (entries older) e i ≡ []
first_use c older s process d bytes e i h may t = over (uses_of (entries older) e i) refl (are_users c older h e i).uses
  where
    o : (x : Descriptor) × (opening_of (entries older) d ≡ Some x) × (x.epoch ≡ e) × (x.inst ≡ i)
    o = opening_is (opening_of (entries older) d) e i t

    granted : granted_to (entries older) e i ≡ Some d
    granted = subst (λ (j : Serial). granted_to (entries older) e j ≡ Some d) o.3 (subst (λ (y : EpochId). granted_to (entries older) y o.0.inst ≡ Some d) o.2 (all_opening c older h d o.0 o.1))

    over : (xs : List CallId) → uses_of (entries older) e i ≡ xs → Every (IsUser (entries older) e i) xs → uses_of (entries older) e i ≡ []
    over [] is k = is
    over (y ∷ ys) is k = absurd (waiting_unnamed c older s process d (reply.Data bytes) h may (subst (λ (z : CallId). has_named (entries older) z ≡ true) (some_same k.0.for.granted d (sym k.0.for.is_granted ∙ granted)) k.0.for.answered))

-- ---- a descriptor after a record ----

-- the record makes it stand for this: it answers the call that the instance was granted to
pub record NamesNow (before : Trace) (s process fd : ℕ) (x : Descriptor) (site user : ℕ) (d : CallId) (r : Reply) : Type 0 where
  pub site_is : site ≡ s
  pub process_is : user ≡ process
  pub named : IsNamedBy before d r fd x

pub answer_split : (before : Trace) (n site user : ℕ) (d : CallId) (r : Reply) (s process fd : ℕ) (x : Descriptor) → descriptor (With n (says.Answer site user d r) before) s process fd ≡ Some x → (descriptor before s process fd ≡ Some x) ⊎ NamesNow before s process fd x site user d r
answer_split before n site user d r s process fd x e = over (site == s) (user == process) refl refl e
  where
    over : (a b : Bool) → (site == s) ≡ a → (user == process) ≡ b → cond (a && b) (opened_by r before d fd (descriptor before s process fd)) (descriptor before s process fd) ≡ Some x → (descriptor before s process fd ≡ Some x) ⊎ NamesNow before s process fd x site user d r
    over true true p q k = opened_left r before d fd (descriptor before s process fd) x ((descriptor before s process fd ≡ Some x) ⊎ NamesNow before s process fd x site user d r)
        (λ o. inr (record { site_is = equal site s p; process_is = equal user process q; named = o })) (λ o. inl o) k
    over true false p q k = inl k
    over false b p q k = inl k

-- any other record names none
abbrev pub IsReply : Record → Type 0
IsReply (says.Answer site user d r) = Unit {0}
IsReply _ = ⊥

pub left_record : (before : Trace) (n : ℕ) (r : Record) (s process fd : ℕ) (x : Descriptor) → (IsReply r → ⊥) → descriptor (With n r before) s process fd ≡ Some x → descriptor before s process fd ≡ Some x
left_record before n (says.Accept site user d words) s process fd x other e = over ((site == s) && (user == process)) e
  where
    over : (b : Bool) → cond b (closed_by words fd (descriptor before s process fd)) (descriptor before s process fd) ≡ Some x → descriptor before s process fd ≡ Some x
    over true k = closed_left words fd (descriptor before s process fd) x k
    over false k = k
left_record before n (says.Stopped site cause) s process fd x other e = over (site == s) e
  where
    over : (b : Bool) → cond b None (descriptor before s process fd) ≡ Some x → descriptor before s process fd ≡ Some x
    over true k = absurd (none_some x k)
    over false k = k
left_record before n (says.Answer site user d r) s process fd x other e = absurd (other tt)
left_record before n _ s process fd x other e = e

-- ---- one descriptor ----

pub record AreOne (s process fd t user other : ℕ) : Type 0 where
  pub site_is : s ≡ t
  pub process_is : process ≡ user
  pub number_is : fd ≡ other

abbrev AllOne : Trace → Type 0
AllOne before = (s process fd : ℕ) (x : Descriptor) (t user other : ℕ) (y : Descriptor) → descriptor before s process fd ≡ Some x → descriptor before t user other ≡ Some y → x.epoch ≡ y.epoch → x.inst ≡ y.inst → AreOne s process fd t user other

one_answer : (c : Config) (older : List Line) (n site caller : ℕ) (d : CallId) (r : Reply) → IsFollowed c older → MayTell c older (Shown (says.Answer site caller d r)) → AllOne (entries older) → AllOne (With n (says.Answer site caller d r) (entries older))
one_answer c older n site caller d r h may k s process fd x t user other y a b same is = over (answer_split (entries older) n site caller d r s process fd x a) (answer_split (entries older) n site caller d r t user other y b)
  where
    -- the new one is of a call that has named nothing
    mixed : (number : ℕ) (u v : Descriptor) (p q m : ℕ) → IsNamedBy (entries older) d r number u → descriptor (entries older) p q m ≡ Some v → u.epoch ≡ v.epoch → u.inst ≡ v.inst → ⊥
    mixed number u v p q m new old there inst = waiting_unnamed c older site caller d r h may (subst (λ (z : CallId). has_named (entries older) z ≡ true) (some_same g.granted d (sym g.is_granted ∙ granted)) g.answered)
      where
        g : GrantedFor (entries older) v.epoch v.inst p q
        g = stand_for c older h p q m v old

        granted : granted_to (entries older) v.epoch v.inst ≡ Some d
        granted = subst (λ (e : EpochId). granted_to (entries older) e v.inst ≡ Some d) there (subst (λ (i : Serial). granted_to (entries older) u.epoch i ≡ Some d) inst (named_granted c older h d r number u new))

    over : (descriptor (entries older) s process fd ≡ Some x) ⊎ NamesNow (entries older) s process fd x site caller d r → (descriptor (entries older) t user other ≡ Some y) ⊎ NamesNow (entries older) t user other y site caller d r → AreOne s process fd t user other
    over (inl p) (inl q) = k s process fd x t user other y p q same is
    over (inr p) (inr q) = record { site_is = sym p.site_is ∙ q.site_is; process_is = sym p.process_is ∙ q.process_is; number_is = one_number (entries older) d r fd other p.named.number q.named.number }
    over (inr p) (inl q) = absurd (mixed fd x y t user other p.named q same is)
    over (inl p) (inr q) = absurd (mixed other y x s process fd q.named p (sym same) (sym is))

one_record : (c : Config) (older : List Line) (n : ℕ) (r : Record) → IsFollowed c older → MayTell c older (Shown r) → AllOne (entries older) → AllOne (With n r (entries older))
one_record c older n (says.Answer site caller d r) h may k s process fd x t user other y a b same is = one_answer c older n site caller d r h may k s process fd x t user other y a b same is
one_record c older n r h may k s process fd x t user other y a b same is = k s process fd x t user other y (left_record (entries older) n r s process fd x (λ k. k) a) (left_record (entries older) n r t user other y (λ k. k) b) same is

one_told : (c : Config) (older : List Line) (n : ℕ) (x : Told) → IsFollowed c older → MayTell c older x → AllOne (entries older) → AllOne (onto_entries n x (entries older))
one_told c older n (Shown r) h may k = one_record c older n r h may k
one_told c older n _ h may k = k

pub one_descriptor : (c : Config) (t : List Line) → IsFollowed c t → AllOne (entries t)
one_descriptor c [] h = λ s process fd x t user other y a. absurd (none_some x a)
one_descriptor c (x ∷ older) h = one_told c older x.number x.told h.1 h.0 (one_descriptor c older h.1)

-- ---- no close ----

abbrev AllUnclosed : Trace → Type 0
AllUnclosed before = (s process fd : ℕ) (x : Descriptor) → descriptor before s process fd ≡ Some x → close_of before x.epoch x.inst ≡ None

-- nobody has closed by a descriptor what no descriptor has named
unclosed_new : (c : Config) (older : List Line) (site caller : ℕ) (d : CallId) (r : Reply) (fd : ℕ) (x : Descriptor) → IsFollowed c older → MayTell c older (Shown (says.Answer site caller d r)) → IsNamedBy (entries older) d r fd x → close_of (entries older) x.epoch x.inst ≡ None
unclosed_new c older site caller d r fd x h may o = over (close_of (entries older) x.epoch x.inst) refl
  where
    user : (k : CallId) → IsUser (entries older) x.epoch x.inst k → ⊥
    user k u = waiting_unnamed c older site caller d r h may (subst (λ (z : CallId). has_named (entries older) z ≡ true) (some_same u.for.granted d (sym u.for.is_granted ∙ named_granted c older h d r fd x o)) u.for.answered)

    over : (b : Option CallId) → close_of (entries older) x.epoch x.inst ≡ b → close_of (entries older) x.epoch x.inst ≡ None
    over None e = e
    over (Some k) e = absurd (user k ((are_users c older h x.epoch x.inst).closes k e))

unclosed_accept : (c : Config) (older : List Line) (n site caller : ℕ) (new : CallId) (words : Call) → IsFollowed c older → AllUnclosed (entries older) → AllUnclosed (With n (says.Accept site caller new words) (entries older))
unclosed_accept c older n site caller new words h k s process fd x e = over (is_close words) (uses_by (begins_now (entries older) site caller new words) x.epoch x.inst) refl refl
  where
    was : descriptor (entries older) s process fd ≡ Some x
    was = left_record (entries older) n (says.Accept site caller new words) s process fd x (λ k. k) e

    -- the close frees the one descriptor of the instance
    freed : (words : Call) → is_close words ≡ true → uses_by (begins_now (entries older) site caller new words) x.epoch x.inst ≡ true → descriptor (With n (says.Accept site caller new words) (entries older)) s process fd ≡ Some x → ⊥
    freed (call.Close number) closes uses stands = none_some x (sym (gone is) ∙ stands)
      where
        f : FromDescriptor (descriptor (entries older) site caller) (epoch_of (entries older) site) (call.Close number) x.epoch x.inst
        f = uses_from (descriptor (entries older) site caller) (epoch_of (entries older) site) new (call.Close number) x.epoch x.inst (uses_is (begins_now (entries older) site caller new (call.Close number)) x.epoch x.inst uses)

        is : AreOne site caller f.fd s process fd
        is = one_descriptor c older h site caller f.fd f.stands s process fd x f.found was f.epoch_is f.serial_is

        test : (a b : ℕ) → a ≡ b → (a == b) ≡ true
        test a b same = ap (λ (m : ℕ). a == m) (sym same) ∙ equal_self a

        gone : AreOne site caller f.fd s process fd → descriptor (With n (says.Accept site caller new (call.Close number)) (entries older)) s process fd ≡ None
        gone one = ap (λ (b : Bool). cond (b && (caller == process)) (cond (number == fd) None (descriptor (entries older) s process fd)) (descriptor (entries older) s process fd)) (test site s one.site_is)
            ∙ (ap (λ (b : Bool). cond b (cond (number == fd) None (descriptor (entries older) s process fd)) (descriptor (entries older) s process fd)) (test caller process one.process_is)
            ∙ ap (λ (b : Bool). cond b None (descriptor (entries older) s process fd)) (test number fd (f.closes ∙ one.number_is)))
    freed (call.Open path how) closes uses stands = true_false (sym closes)
    freed (call.Read number at len) closes uses stands = true_false (sym closes)
    freed (call.Write number at bytes) closes uses stands = true_false (sym closes)
    freed (call.Cut number len) closes uses stands = true_false (sym closes)
    freed (call.Commit number) closes uses stands = true_false (sym closes)
    freed (call.Abort number) closes uses stands = true_false (sym closes)
    freed (call.Create path sites) closes uses stands = true_false (sym closes)
    freed (call.MakeDir path) closes uses stands = true_false (sym closes)
    freed (call.Unlink path) closes uses stands = true_false (sym closes)
    freed (call.RemoveDir path) closes uses stands = true_false (sym closes)
    freed (call.Rename path name) closes uses stands = true_false (sym closes)
    freed (call.List path) closes uses stands = true_false (sym closes)
    freed (call.Stat path) closes uses stands = true_false (sym closes)
    freed (call.Mail path bytes) closes uses stands = true_false (sym closes)
    freed (call.Mails path) closes uses stands = true_false (sym closes)
    freed (call.Mend file) closes uses stands = true_false (sym closes)

    over : (a b : Bool) → is_close words ≡ a → uses_by (begins_now (entries older) site caller new words) x.epoch x.inst ≡ b → cond (a && b) (Some new) (close_of (entries older) x.epoch x.inst) ≡ None
    over true true p q = absurd (freed words p q e)
    over true false p q = k s process fd x was
    over false b p q = k s process fd x was

unclosed_record : (c : Config) (older : List Line) (n : ℕ) (r : Record) → IsFollowed c older → MayTell c older (Shown r) → AllUnclosed (entries older) → AllUnclosed (With n r (entries older))
unclosed_record c older n (says.Accept site caller new words) h may k s process fd x e = unclosed_accept c older n site caller new words h k s process fd x e
unclosed_record c older n (says.Answer site caller d r) h may k s process fd x e = over (answer_split (entries older) n site caller d r s process fd x e)
  where
    over : (descriptor (entries older) s process fd ≡ Some x) ⊎ NamesNow (entries older) s process fd x site caller d r → close_of (entries older) x.epoch x.inst ≡ None
    over (inl was) = k s process fd x was
    over (inr o) = unclosed_new c older site caller d r fd x h may o.named
unclosed_record c older n r h may k s process fd x e = k s process fd x (left_record (entries older) n r s process fd x (λ k. k) e)

unclosed_told : (c : Config) (older : List Line) (n : ℕ) (x : Told) → IsFollowed c older → MayTell c older x → AllUnclosed (entries older) → AllUnclosed (onto_entries n x (entries older))
unclosed_told c older n (Shown r) h may k = unclosed_record c older n r h may k
unclosed_told c older n _ h may k = k

-- no close of what a descriptor stands for was accepted
pub unclosed : (c : Config) (t : List Line) → IsFollowed c t → AllUnclosed (entries t)
unclosed c [] h = λ s process fd x e. absurd (none_some x e)
unclosed c (x ∷ older) h = unclosed_told c older x.number x.told h.1 h.0 (unclosed c older h.1)
