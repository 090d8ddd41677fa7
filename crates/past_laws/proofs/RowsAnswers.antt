-- The row of replies: what may be answered by the folds may be by the past.
use Rattle.std.proofs.Common.{◌≡◌, ℕ, suc, ◌==◌, Bool, true, false, cond, ◌&&◌, ◌||◌, List, [], ◌∷◌, length, Option, Some, None, refl, sym, ◌∙◌, ap, subst, arith, ◌⊎◌, inl, inr}
use Rattle.std.specs.Prelude.{nat_lt, nat_le}
use Rattle.std.proofs.lemmas.Bool.Decides.{nat_tests}
use Rattle.std.specs.List.{find, list_all}
use Rattle.locus_ids.specs.declared.config.Config.{Config}
use Rattle.locus_ids.specs.declared.ids.CallId.{CallId}
use Rattle.locus_ids.specs.declared.ids.EpochId.{EpochId}
use Rattle.locus_ids.specs.declared.refusal.Refusal.TheVariants.{Changed}
use Rattle.trace_book.specs.Same.{same_call, same_epoch}
use Rattle.trace_book.specs.declared.record.Record.{Record}
use Rattle.trace_book.specs.declared.record.Record.TheVariants as rec
use Rattle.trace_book.specs.declared.reply.Reply.{Reply}
use Rattle.trace_book.specs.declared.reply.Reply.TheVariants as reply
use Rattle.call_rules.specs.declared.answer.Answer.{Answer}
use Rattle.call_rules.specs.declared.want.Want.{Want}
use Rattle.call_rules.specs.declared.want.Want.TheVariants as want
use Rattle.tree_model.specs.Epochs.{epoch_of, last_joined, is_in}
use Rattle.tree_model.specs.Folds.{Trace}
use Rattle.tree_model.specs.Working.{list_of}
use Rattle.promises.specs.of_lawful_trace.Lawful.{MayCome}
use Rattle.call_rules.specs.Descriptors.{lowest_free}
use Rattle.promises.specs.of_lawful_trace.Tables.{descriptor}
use Rattle.promises.specs.of_lawful_trace.Progress.{answers, is_packed_in, wants_after, wants_next, left_epoch, left_since, unless_left}
use Rattle.promises.specs.Past.{Past, CallSoFar, Last, Accepting, site_at, asks}
use Rattle.promises.specs.After.{is_id, last_by}
use Rattle.promises.specs.Rows.{may_answer, waits_at, is_home, is_due, is_just_left, is_scripted, is_changed, gives}
use Rattle.past_laws.specs.Agreement.{Agrees, SaysGiven, waiting_as}
use Rattle.past_laws.specs.Standing.{CallStands}
use Rattle.past_laws.specs.Due.{is_after, accepts, tells_left, last_of, SaysDue, TellsLast}
use Rattle.past_laws.proofs.Names.{false_true, none_some, both, both_parts, number_eq, number_own, call_test, epoch_eq, epoch_own}
use Rattle.past_laws.proofs.Changing.{found_any}
use Rattle.past_laws.proofs.SameOwn.{reply_own}
use Rattle.past_laws.proofs.CallsLists.{each_found}
use Rattle.past_laws.proofs.CallsFields.{IsAnswered, answered_one}
use Rattle.past_laws.proofs.CallsAsks.{want_as, wants_by}
use Rattle.past_laws.proofs.CallsFirst.{IsOther, wants_first}
use Rattle.past_laws.proofs.CallsGranted.{With}

or_first : (a b : Bool) → a ≡ true → a || b ≡ true
or_first true b h = refl
or_first false b h = false_true h

or_last : (a b : Bool) → b ≡ true → a || b ≡ true
or_last true b h = refl
or_last false b h = h

-- ---- whether it is due ----

-- the last record is the accept of the call, or an answer to a request of it was heard
due_accepting : (before : Trace) (k : CallSoFar) → is_after (accepts k.id) before ≡ true → is_due (last_of before) k ≡ true
due_accepting [] k h = false_true h
due_accepting (r ∷ before) k h = at r.what h
  where
    at : (w : Record) → accepts k.id w ≡ true → is_due (last_by w) k ≡ true
    at (rec.Accept s process id words) h = or_first (same_call id k.id) _ h
    at _ h = false_true h

due_answered : (l : Last) (k : CallSoFar) → nat_lt 0 (length k.answers) ≡ true → is_due l k ≡ true
due_answered (Accepting id) k h = or_last (same_call id k.id) _ h
due_answered _ k h = h

due_by : (before : Trace) (k : CallSoFar) → nat_lt 0 (length k.answers) || is_after (accepts k.id) before ≡ true → is_due (last_of before) k ≡ true
due_by before k h = over (nat_lt 0 (length k.answers)) refl h
  where
    over : (b : Bool) → nat_lt 0 (length k.answers) ≡ b → b || is_after (accepts k.id) before ≡ true → is_due (last_of before) k ≡ true
    over true e g = due_answered (last_of before) k e
    over false e g = due_accepting before k g

-- the last record tells that the site left
left_by : (before : Trace) (site process : ℕ) (e : EpochId) → is_after (tells_left site process e) before ≡ true → is_just_left (last_of before) site process ≡ true
left_by [] site process e h = false_true h
left_by (r ∷ before) site process e h = at r.what h
  where
    at : (w : Record) → tells_left site process e w ≡ true → is_just_left (last_by w) site process ≡ true
    at (rec.Leave s left) h = both (s == site) (nat_le 0 process) (both_parts (s == site) (same_epoch left e) h).0 (grind (arith, nat_tests))
    at (rec.Answer s q d (reply.No (Changed left))) h = (let first = both_parts (s == site) (nat_le q process && same_epoch left e) h in
        both (s == site) (nat_le q process) first.0 (both_parts (nat_le q process) (same_epoch left e) first.1).0)
    at _ h = false_true h

-- ---- at home, or left ----

-- where the site of a call is, by the epoch in which it was made
pub record AtHome (before : Trace) (p : Past) (k : CallSoFar) : Type 0 where
  pub left : left_epoch before (waiting_as k) ≡ None
  pub home : is_home p k ≡ true

pub record IsAway (before : Trace) (k : CallSoFar) : Type 0 where
  pub epoch : EpochId
  pub made_in : k.epoch ≡ Some epoch
  pub left : left_epoch before (waiting_as k) ≡ Some epoch

pub where_is : (c : Config) (before : Trace) (p : Past) → Agrees c before p → (k : CallSoFar) → AtHome before p k ⊎ IsAway before k
where_is c before p a k = over k.epoch refl
  where
    inside : (e : EpochId) (b : Bool) → k.epoch ≡ Some e → is_in (epoch_of before k.id.site) e ≡ b → AtHome before p k ⊎ IsAway before k
    inside e true f h = inl (record {
      left = ap (left_since before k.id.site) f ∙ ap (λ (b : Bool). cond b None (Some e)) h;
      home = ap (λ (o : Option EpochId). list_all (is_in (site_at p k.id.site).epoch) (list_of o)) f ∙ both (is_in (site_at p k.id.site).epoch e) true (ap (λ (o : Option EpochId). is_in o e) (a.sites.epoch k.id.site) ∙ h) refl;
    })
    inside e false f h = inr (record { epoch = e; made_in = f; left = ap (left_since before k.id.site) f ∙ ap (λ (b : Bool). cond b None (Some e)) h })

    over : (o : Option EpochId) → k.epoch ≡ o → AtHome before p k ⊎ IsAway before k
    over None f = inl (record { left = ap (left_since before k.id.site) f; home = ap (λ (o : Option EpochId). list_all (is_in (site_at p k.id.site).epoch) (list_of o)) f })
    over (Some e) f = inside e (is_in (epoch_of before k.id.site) e) f refl

-- ---- the row ----

given_same : (w : Want) (r : Reply) → w ≡ want.Give r → gives w r ≡ true
given_same w r h = ap (λ (v : Want). gives v r) h ∙ reply_own r

give_same : (a b : Reply) → want.Give a ≡ want.Give b → a ≡ b
give_same a b h = cc

-- a reply that a script gives is due, whatever it is
scripted_due : (c : Config) (before : Trace) (p : Past) (site process : ℕ) (k : CallSoFar) → Agrees c before p → find (is_id k.id) p.calls ≡ Some k → (r : Reply) → SaysDue c before (rec.Answer site process k.id r) → wants_next c before k.id ≡ want.Give r
    → nat_lt 0 (length (answers c before k.id)) || is_after (accepts k.id) before ≡ true
scripted_due c before p site process k a own (reply.No (Changed e)) due says = over (answers c before k.id) refl
  where
    stands : CallStands before k
    stands = (each_found (CallStands before) (is_id k.id) p.calls k own a.calls.stand).0

    over : (xs : List Answer) → answers c before k.id ≡ xs → nat_lt 0 (length xs) || is_after (accepts k.id) before ≡ true
    over [] h = absurd (subst IsOther (sym (wants_by c before p a k own []) ∙ (ap (wants_after c before k.id) (sym h) ∙ says)) (wants_first c.mounts (is_packed_in c before k.epoch) (lowest_free (descriptor before k.id.site k.process)) k.words k.begins stands.well))
    over (x ∷ xs) h = or_first (nat_lt 0 (length (x ∷ xs))) _ (more (length xs))
      where
        more : (m : ℕ) → nat_lt 0 (suc m) ≡ true
        more m = grind (arith, nat_tests)
scripted_due c before p site process k a own _ due says = due

pub row_answer : (c : Config) (before : Trace) (p : Past) (site process : ℕ) (id : CallId) (r : Reply) → Agrees c before p → p.last ≡ last_of before → TellsLast before → SaysGiven c before (rec.Answer site process id r) → SaysDue c before (rec.Answer site process id r)
    → MayCome c before (rec.Answer site process id r) → may_answer c p site process id r ≡ true
row_answer c before p site process id r a last tells given due may = at (answered_one c before p site process id r may a)
  where
    at : IsAnswered before p site process id → may_answer c p site process id r ≡ true
    at it = found_any (is_id id) _ p.calls it.one it.found
        (both (is_id id it.one) _ (call_test it.one.id id it.id_is)
        (both (waits_at site process it.one) _ waits (passes (where_is c before p a it.one))))
      where
        waits : waits_at site process it.one ≡ true
        waits = both it.one.waits _ it.waits (both (it.one.id.site == site) (it.one.process == process) (ap (λ (m : ℕ). m == site) it.site_is ∙ number_own site) (ap (λ (m : ℕ). m == process) it.process_is ∙ number_own process))

        own : find (is_id it.one.id) p.calls ≡ Some it.one
        own = ap (λ (d : CallId). find (is_id d) p.calls) it.id_is ∙ it.found

        heard : it.one.answers ≡ answers c before it.one.id
        heard = a.calls.answers it.one own

        says : unless_left (left_epoch before (waiting_as it.one)) (wants_next c before it.one.id) ≡ want.Give r
        says = given (waiting_as it.one) it.caller

        says_home : AtHome before p it.one → wants_next c before it.one.id ≡ want.Give r
        says_home h = ap (λ (o : Option EpochId). unless_left o (wants_next c before it.one.id)) (sym h.left) ∙ says

        scripted : AtHome before p it.one → is_scripted c p it.one r ≡ true
        scripted h = both (is_home p it.one) _ h.home
            (both (is_due p.last it.one) _ (ap (λ (l : Last). is_due l it.one) last ∙ due_by before it.one
            (ap (λ (xs : List Answer). nat_lt 0 (length xs) || is_after (accepts it.one.id) before) heard
            ∙ scripted_due c before p site process it.one a own r (subst (λ (d : CallId). SaysDue c before (rec.Answer site process d r)) (sym it.id_is) due) (says_home h)))
            (given_same (asks c p it.one) r (want_as c before p a it.one own it.waits it.one.answers ∙ (ap (λ (xs : List Answer). wants_after c before it.one.id xs) heard ∙ says_home h))))

        changed : IsAway before it.one → is_changed p it.one r ≡ true
        changed h = subst (λ (y : Reply). is_changed p it.one y ≡ true) (give_same (reply.No (Changed h.epoch)) r (ap (λ (o : Option EpochId). unless_left o (wants_next c before it.one.id)) (sym h.left) ∙ says))
            (both (is_in it.one.epoch h.epoch) _ (ap (λ (o : Option EpochId). is_in o h.epoch) h.made_in ∙ epoch_own h.epoch)
            (both (is_in (site_at p it.one.id.site).joined h.epoch) _ (ap (λ (o : Option EpochId). is_in o h.epoch) (a.sites.joined it.one.id.site ∙ (ap (last_joined before) it.site_is ∙ tells.joined site process h.epoch left)) ∙ epoch_own h.epoch)
            (ap (λ (l : Last). is_just_left l it.one.id.site it.one.process) last ∙ (ap (λ (m : ℕ). is_just_left (last_of before) m it.one.process) it.site_is ∙ (ap (is_just_left (last_of before) site) it.process_is ∙ left_by before site process h.epoch left)))))
          where
            left : is_after (tells_left site process h.epoch) before ≡ true
            left = subst (λ (y : Reply). SaysDue c before (rec.Answer site process id y)) (sym (give_same (reply.No (Changed h.epoch)) r (ap (λ (o : Option EpochId). unless_left o (wants_next c before it.one.id)) (sym h.left) ∙ says))) due

        passes : AtHome before p it.one ⊎ IsAway before it.one → is_scripted c p it.one r || is_changed p it.one r ≡ true
        passes (inl h) = or_first (is_scripted c p it.one r) _ (scripted h)
        passes (inr h) = or_last (is_scripted c p it.one r) (is_changed p it.one r) (changed h)

-- ---- which epoch was left ----

-- whoever is in an epoch joined it last
joined_last : (r : Record) (n : ℕ) (before : Trace) → ((site : ℕ) (e : EpochId) → epoch_of before site ≡ Some e → last_joined before site ≡ Some e) → (site : ℕ) (e : EpochId) → epoch_of (With n r before) site ≡ Some e → last_joined (With n r before) site ≡ Some e
joined_last (rec.Join s at members) n before old site e h = over (s == site) h
  where
    over : (b : Bool) → cond b (Some at) (epoch_of before site) ≡ Some e → cond b (Some at) (last_joined before site) ≡ Some e
    over true k = k
    over false k = old site e k
joined_last (rec.Leave s at) n before old site e h = over (s == site) h
  where
    over : (b : Bool) → cond b None (epoch_of before site) ≡ Some e → last_joined before site ≡ Some e
    over true k = none_some e k
    over false k = old site e k
joined_last (rec.Stopped s cause) n before old site e h = over (s == site) h
  where
    over : (b : Bool) → cond b None (epoch_of before site) ≡ Some e → last_joined before site ≡ Some e
    over true k = none_some e k
    over false k = old site e k
joined_last (rec.Up s boot) n before old site e h = over (s == site) h
  where
    over : (b : Bool) → cond b None (epoch_of before site) ≡ Some e → cond b None (last_joined before site) ≡ Some e
    over true k = none_some e k
    over false k = old site e k
joined_last _ n before old site e h = old site e h

pub inside_joined : (trace : Trace) (site : ℕ) (e : EpochId) → epoch_of trace site ≡ Some e → last_joined trace site ≡ Some e
inside_joined [] site e h = none_some e h
inside_joined (r ∷ before) site e h = joined_last r.what r.line before (λ s d k. inside_joined before s d k) site e h

-- the last record tells that the site left what it joined last
pub tells_step : (c : Config) (n : ℕ) (w : Record) (before : Trace) → MayCome c before w → SaysDue c before w → TellsLast before → TellsLast (With n w before)
tells_step c n w before may due old = record { joined = λ site process e h. at w may due site process e h }
  where
    at : (y : Record) → MayCome c before y → SaysDue c before y → (site process : ℕ) (e : EpochId) → tells_left site process e y ≡ true → last_joined (With n y before) site ≡ Some e
    at (rec.Leave s left) may due site process e h = (let parts = both_parts (s == site) (same_epoch left e) h in
        inside_joined before site e (ap (epoch_of before) (sym (number_eq s site parts.0)) ∙ (may.inside ∙ ap Some (epoch_eq left e parts.1))))
    at (rec.Answer s q d (reply.No (Changed left))) may due site process e h = (let parts = both_parts (s == site) (nat_le q process && same_epoch left e) h in
        ap (last_joined before) (sym (number_eq s site parts.0)) ∙ (old.joined s q left due ∙ ap Some (epoch_eq left e (both_parts (nat_le q process) (same_epoch left e) parts.1).1)))
    at _ may due site process e h = false_true h

pub tells_none : TellsLast []
tells_none = record { joined = λ site process e h. false_true h }
