-- Whose an open instance is, and what a reply names.
use Rattle.std.proofs.Common.{◌≡◌, ℕ, ◌&&◌, ◌||◌, not, Bool, true, false, cond, List, [], ◌∷◌, filter, Option, Some, None, refl, sym, ap, subst, ◌∙◌}
use Rattle.std.specs.List.{find, list_any, list_all, AllByRecursion}
use Rattle.locus_ids.specs.declared.config.Config.{Config}
use Rattle.locus_ids.specs.declared.ids.CallId.{CallId}
use Rattle.locus_ids.specs.declared.ids.EpochId.{EpochId}
use Rattle.locus_ids.specs.declared.ids.Serial.{Serial}
use Rattle.trace_book.specs.Same.{same_call, same_serial}
use Rattle.trace_book.specs.declared.descriptor.Descriptor.{Descriptor}
use Rattle.trace_book.specs.declared.reply.Reply.{Reply}
use Rattle.trace_book.specs.declared.reply.Reply.TheVariants as reply
use Rattle.tree_model.specs.declared.instance.Granted.{Granted}
use Rattle.tree_model.specs.Epochs.{is_in}
use Rattle.tree_model.specs.Working.{list_of}
use Rattle.promises.specs.Past.{Past, Epoch, CallSoFar, Instance, epoch_at, unformed, is_close, is_named, is_on}
use Rattle.promises.specs.After.{is_epoch, is_id, is_reading, named_by}
use Rattle.plain_facts.proofs.Tests.{and_first, and_second, false_unless, or_false}
use Rattle.past_laws.proofs.Names.{false_true, some_same, call_eq, epoch_eq, epoch_own, serial_eq, serial_own}
use Rattle.past_laws.proofs.Changing.{any_filtered, any_finds, Finds, first_found}
use Rattle.past_laws.proofs.Finding.{found_only}
use Rattle.past_laws.proofs.CallsLists.{each_both, each_more, each_of, none_pass}
use Rattle.past_laws.proofs.TreesLists.{all_found}
use Rattle.row_lists.proofs.ByPlace.{kept_finds}
use Rattle.audit_laws.specs.Tidy.Epochs.{EpochsStand, EpochStands, is_grant}
use Rattle.audit_laws.specs.Tidy.Ties.{has_epoch, has_granted, has_named, is_named_there, CallTied}
use Rattle.audit_laws.specs.Tidy.Users.{is_over, is_use, NamedSo}
use Rattle.audit_laws.specs.Tidy.Tidy.{IsTidy}
use Rattle.audit_laws.proofs.Tidy.Lists.{each_first, kept_own}
use Rattle.audit_laws.proofs.Tidy.Epochs.{epoch_stands}
use Rattle.audit_laws.proofs.Tidy.Answers.{AnswersOne}

-- what an epoch has that is there, it has
pub has_at : (q : Epoch → Bool) (p : Past) (e : EpochId) → EpochsStand p.epochs → has_epoch q e p.epochs ≡ true → q (epoch_at p e) ≡ true
has_at q p e st h = of (any_finds (λ (t : Epoch). is_epoch e t && q t) p.epochs h)
  where
    of : Finds (λ (t : Epoch). is_epoch e t && q t) p.epochs → q (epoch_at p e) ≡ true
    of it = subst (λ (t : Epoch). q t ≡ true)
        (sym (first_found (unformed e) (is_epoch e) p.epochs it.one (found_only (is_epoch e) (λ (t : Epoch). is_epoch e t && q t) (λ t k. and_first (is_epoch e t) (q t) k) p.epochs it.one (st.once e) it.found)))
        (and_second (is_epoch e it.one) (q it.one) it.passes)

pub epochs_own : (p : Past) → EpochsStand p.epochs → AllByRecursion (λ (t : Epoch). epoch_at p t.id ≡ t) p.epochs
epochs_own p st = each_more (λ (t : Epoch). filter (is_epoch t.id) p.epochs ≡ t ∷ []) (λ (t : Epoch). epoch_at p t.id ≡ t) (λ t k. first_found (unformed t.id) (is_epoch t.id) p.epochs t (kept_finds (is_epoch t.id) p.epochs t k)) p.epochs
    (kept_own (λ (t u : Epoch). is_epoch t.id u) (λ t. epoch_own t.id) p.epochs (λ t. st.once t.id))

-- ---- whose an open instance is ----

granted_to : (p : Past) (e : EpochId) (i : Serial) (id : CallId) → EpochsStand p.epochs → has_epoch (has_granted i id) e p.epochs ≡ true → AllByRecursion (λ (x : Instance). is_named i x ≡ true → x.grant.call ≡ id) (epoch_at p e).opened
granted_to p e i id st h = of (any_finds by (epoch_at p e).granted (has_at (has_granted i id) p e st h))
  where
    by : Granted → Bool
    by g = is_grant i g && same_call g.call id

    of : Finds by (epoch_at p e).granted → AllByRecursion (λ (x : Instance). is_named i x ≡ true → x.grant.call ≡ id) (epoch_at p e).opened
    of it = each_more (λ (x : Instance). find (is_grant x.grant.inst) (epoch_at p e).granted ≡ Some x.grant) (λ (x : Instance). is_named i x ≡ true → x.grant.call ≡ id)
        (λ x k n. ap (λ (g : Granted). g.call) (some_same x.grant it.one (sym (subst (λ (j : Serial). find (is_grant j) (epoch_at p e).granted ≡ Some x.grant) (serial_eq x.grant.inst i n) k) ∙ first))
        ∙ call_eq it.one.call id (and_second (is_grant i it.one) (same_call it.one.call id) it.passes)) (epoch_at p e).opened (epoch_stands p e st).as_granted
      where
        first : find (is_grant i) (epoch_at p e).granted ≡ Some it.one
        first = found_only (is_grant i) by (λ g m. and_first (is_grant i g) (same_call g.call id) m) (epoch_at p e).granted it.one ((epoch_stands p e st).grants i) it.found

-- the instances of an epoch that these descriptors name
abbrev pub takes_there : List Descriptor → Epoch → Instance → Bool
takes_there ds t x = list_any (λ (d : Descriptor). is_in (Some d.epoch) t.id && is_named d.inst x) ds

-- what a reply names was granted to its call
reply_names : (p : Past) (r : Reply) (k : CallSoFar) (t : Epoch) → EpochsStand p.epochs → CallTied p.epochs k → epoch_at p t.id ≡ t → AllByRecursion (λ (x : Instance). takes_there (named_by r k) t x ≡ true → x.grant.call ≡ k.id) t.opened
reply_names p r k t st tied own = by r
  where
    nobody : AllByRecursion (λ (x : Instance). false ≡ true → x.grant.call ≡ k.id) t.opened
    nobody = each_of (λ (x : Instance). false ≡ true → x.grant.call ≡ k.id) (λ x h. false_true h) t.opened

    one : (d : Descriptor) → k.granted ≡ Some d → AllByRecursion (λ (x : Instance). takes_there (d ∷ []) t x ≡ true → x.grant.call ≡ k.id) t.opened
    one d g = at (is_in (Some d.epoch) t.id) refl
      where
        at : (b : Bool) → is_in (Some d.epoch) t.id ≡ b → AllByRecursion (λ (x : Instance). ((b && is_named d.inst x) || false) ≡ true → x.grant.call ≡ k.id) t.opened
        at true h = each_more (λ (x : Instance). is_named d.inst x ≡ true → x.grant.call ≡ k.id) (λ (x : Instance). (is_named d.inst x || false) ≡ true → x.grant.call ≡ k.id) (λ x f n. f (sym (or_false (is_named d.inst x)) ∙ n)) t.opened
            (subst (λ (u : Epoch). AllByRecursion (λ (x : Instance). is_named d.inst x ≡ true → x.grant.call ≡ k.id) u.opened) (ap (epoch_at p) (epoch_eq d.epoch t.id h) ∙ own) (granted_to p d.epoch d.inst k.id st (tied.has_it d g)))
        at false h = nobody

    of : (o : Option Descriptor) → k.granted ≡ o → AllByRecursion (λ (x : Instance). takes_there (list_of o) t x ≡ true → x.grant.call ≡ k.id) t.opened
    of None g = nobody
    of (Some d) g = one d g

    by : (a : Reply) → AllByRecursion (λ (x : Instance). takes_there (named_by a k) t x ≡ true → x.grant.call ≡ k.id) t.opened
    by (reply.Opened fd) = of k.granted refl
    by (reply.Data bytes) = read (is_reading k.words)
      where
        read : (b : Bool) → AllByRecursion (λ (x : Instance). takes_there (cond b (list_of k.granted) []) t x ≡ true → x.grant.call ≡ k.id) t.opened
        read true = of k.granted refl
        read false = nobody
    by a = nobody

-- ---- what a reply names has had no name ----

-- it was granted to the call, no read has opened it again, and no call uses it
pub record IsFresh (calls : List CallSoFar) (e : EpochId) (id : CallId) (x : Instance) : Type 0 where
  pub granted : x.grant.call ≡ id
  pub again : x.again ≡ false
  pub unused : filter (is_use e x.grant.inst) calls ≡ []

-- a call that waits isn't over
not_over : (c : Config) (p : Past) (site process : ℕ) (id : CallId) (r : Reply) → (it : AnswersOne c p site process id r) → list_any (is_over id) p.calls ≡ false
not_over c p site process id r it = sym (any_filtered (λ (k : CallSoFar). not k.waits) (is_id id) p.calls) ∙ (ap (list_any (λ (k : CallSoFar). not k.waits)) it.only ∙ ap (λ b. not b || false) it.waits)

pub fresh : (c : Config) (p : Past) (site process : ℕ) (id : CallId) (r : Reply) → IsTidy c p → (it : AnswersOne c p site process id r) → CallTied p.epochs it.call → (t : Epoch) → epoch_at p t.id ≡ t
    → AllByRecursion (λ (x : Instance). takes_there (named_by r it.call) t x ≡ true → IsFresh p.calls t.id id x) t.opened
fresh c p site process id r tidy it tied t own = each_both Names Found Fresh together t.opened (reply_names p r it.call t tidy.epochs tied own) (each_both (NamedSo p.calls) Finds_own Found (λ x a b. (a, b)) t.opened so founds)
  where
    Names : Instance → Type 0
    Names x = takes_there (named_by r it.call) t x ≡ true → x.grant.call ≡ it.call.id

    Finds_own : Instance → Type 0
    Finds_own x = find (is_named x.grant.inst) t.opened ≡ Some x

    Found : Instance → Type 0
    Found x = NamedSo p.calls x × Finds_own x

    Fresh : Instance → Type 0
    Fresh x = takes_there (named_by r it.call) t x ≡ true → IsFresh p.calls t.id id x

    so : AllByRecursion (NamedSo p.calls) t.opened
    so = subst (λ (u : Epoch). AllByRecursion (NamedSo p.calls) u.opened) own (each_first (λ (u : Epoch). AllByRecursion (NamedSo p.calls) u.opened) (unformed t.id) (is_epoch t.id) p.epochs tt tidy.users.named)

    stands : EpochStands t
    stands = subst EpochStands own (epoch_stands p t.id tidy.epochs)

    founds : AllByRecursion Finds_own t.opened
    founds = each_more (λ (x : Instance). filter (is_named x.grant.inst) t.opened ≡ x ∷ []) Finds_own (λ x k. kept_finds (is_named x.grant.inst) t.opened x k) t.opened (kept_own (λ (x y : Instance). is_named x.grant.inst y) (λ x. serial_own x.grant.inst) t.opened (λ x. stands.single x.grant.inst))

    -- a call uses only what a descriptor has named
    named : (x : Instance) → Finds_own x → (k : CallSoFar) → CallTied p.epochs k → is_on k.begins t.id x.grant.inst ≡ true → x.named ≡ true
    named x found k tied_k h = ap (λ b. not b || x.named) (sym (serial_own x.grant.inst)) ∙ all_found (is_named_there x.grant.inst) (is_named x.grant.inst) t.opened x (and_second (list_any (is_grant x.grant.inst) t.granted) (list_all (is_named_there x.grant.inst) t.opened)
        (ap (has_named x.grant.inst) (sym own) ∙ has_at (has_named x.grant.inst) p t.id tidy.epochs (tied_k.uses t.id x.grant.inst h))) found

    together : (x : Instance) → Names x → Found x → Fresh x
    together x names found w = record {
      granted = granted;
      again = false_unless x.again (λ a. false_true (sym unnamed ∙ found.0.again a));
      unused = none_pass (is_use t.id x.grant.inst) p.calls (each_more (CallTied p.epochs) (λ (k : CallSoFar). is_use t.id x.grant.inst k ≡ false)
          (λ k tied_k. ap (λ b. b && not (is_close k.words)) (false_unless (is_on k.begins t.id x.grant.inst) (λ h. false_true (sym unnamed ∙ named x found.1 k tied_k h)))) p.calls tidy.ties.calls);
    }
      where
        granted : x.grant.call ≡ id
        granted = names w ∙ it.is_it

        unnamed : x.named ≡ false
        unnamed = false_unless x.named (λ n. false_true (sym (not_over c p site process id r it) ∙ subst (λ (d : CallId). list_any (is_over d) p.calls ≡ true) granted (found.0.over n)))
