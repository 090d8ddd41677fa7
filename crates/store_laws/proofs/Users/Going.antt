-- A call that turns goes on: it asks its next request, or it is answered.
use Rattle.std.proofs.Common.{◌≡◌, ℕ, ◌<◌, Bool, true, false, cond, List, Option, option_map, Some, None, refl, sym, ◌∙◌, ap, subst}
use Rattle.role_steps.proofs.of_plain_facts.Tests.{true_false}
use Rattle.locus_ids.specs.declared.config.Config.{Config}
use Rattle.locus_ids.specs.declared.ids.CallId.{CallId}
use Rattle.locus_ids.specs.declared.ids.EpochId.{EpochId}
use Rattle.locus_ids.specs.declared.ids.Mode.{Mode}
use Rattle.locus_ids.specs.declared.ids.Serial.{Serial}
use Rattle.locus_ids.specs.Sizes.{descriptor_span}
use Rattle.trace_book.specs.declared.call.Call.{Call}
use Rattle.trace_book.specs.declared.call.Call.TheVariants as call
use Rattle.trace_book.specs.declared.descriptor.Beginning.{Beginning}
use Rattle.trace_book.specs.declared.descriptor.Beginning.TheVariants as begins
use Rattle.trace_book.specs.declared.descriptor.Descriptor.{Descriptor}
use Rattle.trace_book.specs.declared.descriptor.OneVersion.{OneVersion}
use Rattle.trace_book.specs.declared.reply.Reply.{Reply}
use Rattle.trace_book.specs.declared.reply.Reply.TheVariants as reply
use Rattle.call_rules.specs.Opening.{is_steady}
use Rattle.call_rules.specs.declared.answer.Answer.{Answer}
use Rattle.call_rules.specs.declared.want.Want.{Want}
use Rattle.call_rules.specs.declared.want.Want.TheVariants as want
use Rattle.role_steps.specs.Using.{asks_want, goes_on, last_opened, last_version, mode_asked, next_want, no_serial, opened_row, replies, reply_record}
use Rattle.role_steps.specs.Views.{Users, Frame}
use Rattle.role_steps.specs.declared.users.WaitingCall.{WaitingCall}
use Rattle.tree_laws.specs.of_the_run.Worlds.{Line}
use Rattle.tree_model.specs.declared.accepted.Waiting.{Waiting}
use Rattle.tree_model.specs.Calls.{call_named, opening_of, version_of}
use Rattle.tree_laws.specs.of_lawful_trace.Tables.{begun, descriptor, held_again, kept_by}
use Rattle.tree_laws.specs.Printed.{entries}
use Rattle.tree_laws.specs.Calls.{is_request, log}
use Rattle.tree_laws.specs.Doing.{FrameFact, UsersFine}
use Rattle.tree_laws.specs.Following.{IsFollowed, MayTell}
use Rattle.tree_laws.specs.Serials.{asked_now, is_open_want, is_op_on}
use Rattle.store_laws.specs.Users.Rests.{IsOpenedAs, IsReadAgain, ReadsKept, RequestRests, ReplyRests, Staying, gives_now}
use Rattle.store_laws.specs.Users.Turning.{it, Turning}
use Rattle.store_laws.proofs.Users.Replied.{OpensWell, ReadsWell, kept_so, replied_fine}
use Rattle.store_laws.proofs.Users.Replying.{asks_nothing, may_reply, script_is, taken}
use Rattle.store_laws.proofs.Users.Requesting.{plain, requests_fine}

-- nothing that asks nothing is counted
not_open : (v : Want) → is_request v ≡ false → is_open_want v ≡ false
not_open (want.Look file what) r = refl
not_open (want.Open file m) r = absurd (true_false r)
not_open (want.OpenToMend file) r = absurd (true_false r)
not_open (want.Make group kind sites) r = absurd (true_false r)
not_open (want.Do i o) r = refl
not_open (want.Close i) r = refl
not_open (want.Give given) r = refl
not_open want.Never r = refl

not_op : (v : Want) → is_request v ≡ false → (i : Serial) → is_op_on i v ≡ false
not_op (want.Look file what) r i = refl
not_op (want.Open file m) r i = refl
not_op (want.OpenToMend file) r i = refl
not_op (want.Make group kind sites) r i = refl
not_op (want.Do j o) r i = absurd (true_false r)
not_op (want.Close j) r i = refl
not_op (want.Give given) r i = refl
not_op want.Never r i = refl

module _ (c : Config) (n : ℕ) (t : List Line) (f : Frame) (w : WaitingCall) (u : Users) (h : IsFollowed c t) (frame : FrameFact c t f) (k : Turning c t f w u) (asked : RequestRests c t) (given : ReplyRests c t) where
  well_opened : (fd : ℕ) → next_want f w u ≡ want.Give (reply.Opened fd) → OpensWell t f w (reply.Opened fd)
  well_opened fd e = (opened.small, ap (option_map (λ (y : Descriptor). record y { steady = keeps })) (opened.is_last ∙ same) ∙ ap (λ (v : Option OneVersion). Some (record (opened_row f w fd None).descriptor { steady = v })) keeps_so)
    where
      opened : IsOpenedAs c t (it f w) fd (record { mode = mode_asked k.call.caller.words; epoch = f.epoch; inst = last_opened no_serial (log t (it f w)); steady = None })
      opened = given.opened (it f w) k.call.caller f.epoch fd (taken c t f w u h frame k) (sym (script_is c t f w u h frame k) ∙ e)

      same : ◌≡◌ {A = Option Descriptor} (Some (record { mode = mode_asked k.call.caller.words; epoch = f.epoch; inst = last_opened no_serial (log t (it f w)); steady = None })) (Some (opened_row f w fd None).descriptor)
      same = ap (λ (x : Waiting). Some (record { mode = mode_asked x.words; epoch = f.epoch; inst = last_opened no_serial (log t (it f w)); steady = None })) k.call.caller_is ∙ ap (λ (xs : List Answer). Some (record { mode = mode_asked w.words; epoch = f.epoch; inst = last_opened no_serial xs; steady = None })) (sym k.call.answers_are)

      keeps : Option OneVersion
      keeps = kept_by (call_named (entries t) (it f w)) (version_of (entries t) (it f w))

      words_are : k.call.caller.words ≡ w.words
      words_are = ap (λ (x : Waiting). x.words) k.call.caller_is

      by : (b : Bool) → is_steady k.call.caller.words ≡ b → cond b (version_of (entries t) (it f w)) None ≡ cond b (last_version None (log t (it f w))) None
      by true s = opened.keeps k.call.caller k.call.named s
      by false s = refl

      keeps_so : keeps ≡ kept_so w
      keeps_so = ap (λ (o : Option Waiting). kept_by o (version_of (entries t) (it f w))) k.call.named
          ∙ (by (is_steady k.call.caller.words) refl ∙ (ap (λ (xs : List Answer). cond (is_steady k.call.caller.words) (last_version None xs) None) (sym k.call.answers_are)
          ∙ ap (λ (y : Call). cond (is_steady y) (last_version None w.answers) None) words_are))

  well_read : (bytes : List ℕ) → next_want f w u ≡ want.Give (reply.Data bytes) → OpensWell t f w (reply.Data bytes)
  well_read bytes e = over w.begins refl w.words refl
    where
      gives : gives_now c t (it f w) k.call.caller ≡ want.Give (reply.Data bytes)
      gives = sym (script_is c t f w u h frame k) ∙ e

      again : (x : Descriptor) → opening_of (entries t) (it f w) ≡ Some x → IsReadAgain c t (it f w) f.epoch x
      again x found = given.read (it f w) k.call.caller f.epoch bytes x (taken c t f w u h frame k) gives found

      -- only what has opened a version again was granted anything
      ungranted : (b : Beginning) → w.begins ≡ b → ((kept : OneVersion) (last : EpochId) → b ≡ begins.Reopens kept last → ⊥) → opening_of (entries t) (it f w) ≡ None
      ungranted b is other = at (opening_of (entries t) (it f w)) refl
        where
          same : (kept : OneVersion) (last : EpochId) → ◌≡◌ {A = Option Beginning} (Some b) (Some (begins.Reopens kept last)) → b ≡ begins.Reopens kept last
          same kept last p = cc

          at : (o : Option Descriptor) → opening_of (entries t) (it f w) ≡ o → opening_of (entries t) (it f w) ≡ None
          at None p = p
          at (Some x) p = (let r : IsReadAgain c t (it f w) f.epoch x = again x p in absurd (other r.began.0 r.began.1 (same r.began.0 r.began.1 (ap Some (sym is) ∙ (sym k.call.begins_is ∙ r.began.2)))))

      reread : (kept : OneVersion) (last : EpochId) → w.begins ≡ begins.Reopens kept last → ((x : Descriptor) × (opening_of (entries t) (it f w) ≡ Some x)) × ReadsKept t k.call.caller kept
      reread kept last is = given.reread (it f w) k.call.caller f.epoch bytes kept last (taken c t f w u h frame k) gives (k.call.begins_is ∙ ap Some is)

      caller_words : (words : Call) → w.words ≡ words → k.call.caller.words ≡ words
      caller_words words e = ap (λ (x : Waiting). x.words) k.call.caller_is ∙ e

      reads : (kept : OneVersion) (last : EpochId) → w.begins ≡ begins.Reopens kept last → (fd at len : ℕ) → w.words ≡ call.Read fd at len → ReadsWell t f w (begins.Reopens kept last) (call.Read fd at len)
      reads kept last is fd at len words = (subst (λ (m : ℕ). m < descriptor_span) same_fd r.1.small, held)
        where
          r : ((x : Descriptor) × (opening_of (entries t) (it f w) ≡ Some x)) × ReadsKept t k.call.caller kept
          r = reread kept last is

          x : Descriptor
          x = r.0.0

          so : IsReadAgain c t (it f w) f.epoch x
          so = again x r.0.1

          one : (a : call.Read r.1.fd r.1.at r.1.len ≡ call.Read fd at len) → r.1.fd ≡ fd
          one a = cc

          same_fd : r.1.fd ≡ fd
          same_fd = one (sym r.1.words_are ∙ caller_words (call.Read fd at len) words)

          stands : descriptor (entries t) f.me w.process fd ≡ Some r.1.stands
          stands = ap (descriptor (entries t) f.me w.process) (sym same_fd) ∙ (sym (ap (λ (y : Waiting). descriptor (entries t) y.site y.process r.1.fd) k.call.caller_is) ∙ r.1.found)

          last_is : last_opened no_serial w.answers ≡ x.inst
          last_is = ap (last_opened no_serial) (k.call.answers_are ∙ so.took.2)

          descriptor_is : record x { steady = r.1.stands.steady } ≡ (opened_row f w fd (Some kept)).descriptor
          descriptor_is = ap (λ (m : Mode). record x { mode = m; steady = r.1.stands.steady }) (so.mode_is ∙ sym (ap mode_asked words))
              ∙ (ap (λ (at : EpochId). record { mode = mode_asked w.words; epoch = at; inst = x.inst; steady = r.1.stands.steady }) (sym so.epoch_is)
              ∙ (ap (λ (i : Serial). record { mode = mode_asked w.words; epoch = f.epoch; inst = i; steady = r.1.stands.steady }) (sym last_is)
              ∙ ap (λ (v : Option OneVersion). record { mode = mode_asked w.words; epoch = f.epoch; inst = last_opened no_serial w.answers; steady = v }) r.1.keeps))

          held : held_again (opening_of (entries t) (it f w)) (descriptor (entries t) f.me w.process fd) ≡ Some (opened_row f w fd (Some kept)).descriptor
          held = ap (λ (o : Option Descriptor). held_again o (descriptor (entries t) f.me w.process fd)) r.0.1 ∙ (ap (held_again (Some x)) stands ∙ ap Some descriptor_is)

      others : (kept : OneVersion) (last : EpochId) → w.begins ≡ begins.Reopens kept last → (words : Call) → w.words ≡ words → ((fd at len : ℕ) → words ≡ call.Read fd at len → ⊥) → opening_of (entries t) (it f w) ≡ None
      others kept last is words same other = (let r : ReadsKept t k.call.caller kept = (reread kept last is).1 in absurd (other r.fd r.at r.len (sym (caller_words words same) ∙ r.words_are)))

      over : (b : Beginning) → w.begins ≡ b → (words : Call) → w.words ≡ words → ReadsWell t f w b words
      over (begins.Reopens kept last) is (call.Read fd at len) same = reads kept last is fd at len same
      over (begins.Reopens kept last) is words same = others kept last is words same (λ fd at len e. cc)
      over b is words same = ungranted b is (λ kept last e. cc)

  well : (r : Reply) → next_want f w u ≡ want.Give r → OpensWell t f w r
  well (reply.Opened fd) e = well_opened fd e
  well (reply.Data bytes) e = well_read bytes e
  well _ e = tt

  reply_fine : (r : Reply) → next_want f w u ≡ want.Give r → Staying c n t (replies f w r u).told → UsersFine c n t f (replies f w r u)
  reply_fine r e staying = record {
    told = (may, tt);
    own = (refl, tt);
    view = replied_fine c n t f w u r h frame (plain c n t f h frame w u (asked_now c t (it f w)) k refl (not_open (asked_now c t (it f w)) nothing) (not_op (asked_now c t (it f w)) nothing)) may (staying may).0.stay (well r e);
    sent = tt;
    written = tt;
  }
    where
      nothing : is_request (asked_now c t (it f w)) ≡ false
      nothing = asks_nothing c t f w u h frame k (want.Give r) e refl

      may : MayTell c t (reply_record f.me f.boot w r)
      may = may_reply c t f w u h frame given k r e

  pub goes_fine : Staying c n t (goes_on f w u).told → UsersFine c n t f (goes_on f w u)
  goes_fine staying = over (next_want f w u) refl staying
    where
      request : (v : Want) → next_want f w u ≡ v → is_request v ≡ true → UsersFine c n t f (asks_want f w v u)
      request v e r = subst (λ (y : Want). UsersFine c n t f (asks_want f w y u)) e (requests_fine c n t f w u h frame asked k (ap is_request e ∙ r))

      over : (v : Want) → next_want f w u ≡ v → Staying c n t (asks_want f w v u).told → UsersFine c n t f (asks_want f w v u)
      over (want.Look file what) e s = request (want.Look file what) e refl
      over (want.Open file m) e s = request (want.Open file m) e refl
      over (want.OpenToMend file) e s = request (want.OpenToMend file) e refl
      over (want.Make group kind sites) e s = request (want.Make group kind sites) e refl
      over (want.Do i o) e s = request (want.Do i o) e refl
      over (want.Close i) e s = request (want.Close i) e refl
      over (want.Give r) e s = reply_fine r e s
      over want.Never e s = absurd (given.strays (it f w) k.call.caller f.epoch (taken c t f w u h frame k) (sym (script_is c t f w u h frame k) ∙ e))
