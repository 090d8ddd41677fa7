-- In each world of a round in which all members are together the tables know the looks that are asked: none later, this one by its
-- answer, and where a request of the process is held, it is this one.
use Rattle.std.proofs.Common.{◌≡◌, ℕ, ◌+◌, ◌<◌, ◌≤◌, ◌==◌, true, false, ◌&&◌, List, [], ◌∷◌, length, Some, refl, sym, ◌∙◌, ap, subst, ◌⊎◌, inl, inr, arith}
use Rattle.role_steps.proofs.of_plain_facts.Numbers.{equal}
use Rattle.role_steps.proofs.of_plain_facts.Options.{some_same}
use Rattle.role_steps.proofs.of_plain_facts.Tests.{both_true}
use Rattle.locus_ids.specs.declared.config.Config.{Config}
use Rattle.locus_ids.specs.declared.ids.CallId.{CallId}
use Rattle.locus_ids.specs.declared.ids.EpochId.{EpochId}
use Rattle.locus_ids.specs.declared.ids.FileId.{FileId}
use Rattle.locus_ids.specs.declared.ids.Kind.{Kind}
use Rattle.locus_ids.specs.declared.ids.Stamp.{Stamp}
use Rattle.locus_ids.specs.declared.refusal.Refusal.{Refusal}
use Rattle.trace_book.specs.declared.operation.Served.{Served}
use Rattle.trace_book.specs.declared.operation.Served.TheVariants as served
use Rattle.trace_book.specs.declared.operation.What.{What}
use Rattle.trace_book.specs.declared.operation.What.TheVariants as what
use Rattle.call_rules.specs.declared.answer.Answer.{Answer}
use Rattle.call_rules.specs.declared.want.Want.{Want}
use Rattle.call_rules.specs.declared.want.Want.TheVariants as want
use Rattle.wire_messages.specs.declared.body.Body.{Body}
use Rattle.wire_messages.specs.declared.body.Body.TheVariants as body
use Rattle.wire_messages.specs.declared.body.LookAnswer.{LookAnswer}
use Rattle.wire_messages.specs.declared.body.LookAnswer.TheVariants as looked
use Rattle.role_steps.specs.Adoption.{table_group}
use Rattle.role_steps.specs.Looks.{is_look_before, is_same_look, look_key}
use Rattle.role_steps.specs.Own.{Every}
use Rattle.role_steps.specs.Reports.{is_early_of}
use Rattle.role_steps.specs.Tables.{row}
use Rattle.role_steps.specs.Using.{answers_what}
use Rattle.role_steps.specs.Versions.{row_ino}
use Rattle.role_steps.specs.Views.{Frame, packet, boot_in, process_key}
use Rattle.role_steps.specs.declared.rounds.InEpoch.{InEpoch}
use Rattle.role_steps.specs.declared.synchronizing.Early.{Early}
use Rattle.role_steps.specs.declared.synchronizing.FileRow.{FileRow}
use Rattle.role_steps.specs.declared.synchronizing.LastLook.{LastLook}
use Rattle.role_steps.specs.declared.synchronizing.SyncTable.{SyncTable}
use Rattle.role_steps.specs.declared.users.Asking.{Asking}
use Rattle.role_steps.specs.declared.users.Asking.TheVariants as asking
use Rattle.role_steps.specs.declared.users.WaitingCall.{WaitingCall}
use Rattle.the_run.specs.Kept.{Among}
use Rattle.the_run.specs.Worlds.{Numbered, Line}
use Rattle.tree_model.specs.declared.accepted.Waiting.{Waiting}
use Rattle.lawful_trace.specs.TreeRows.{IsCallIn}
use Rattle.tree_laws.specs.Printed.{entries}
use Rattle.tree_laws.specs.Calls.{is_request, request_number, tries}
use Rattle.tree_laws.specs.Instances.{AsksOpen, IsOpening, IsStarted}
use Rattle.tree_laws.specs.Packets.{BodyFact, PacketFact, IsCallOf, LookAnswers, LookFact, LooksNow, serial_of}
use Rattle.tree_laws.specs.Past.{WasLooked, WasNamedIn}
use Rattle.tree_laws.specs.Processes.{IsUnder, IsUpTo, OnlyMends}
use Rattle.tree_laws.specs.Serials.{asked_now}
use Rattle.tree_laws.specs.Tables.{Turn, TableFact, WaitsIn, early_packet, last_turn, turn_of}
use Rattle.tree_laws.specs.Users.{own_call, AskingIs, WaitingFact}
use Rattle.tree_laws.proofs.Alone.{call_is}
use Rattle.tree_laws.proofs.Looking.{looked_low}
use Rattle.tree_laws.proofs.OneBoot.{one_boot}
use Rattle.store_laws.proofs.Users.Looked.{looks_so}
use Rattle.store_laws.proofs.OneTree.UserStepResting.{steady}
use Rattle.rest_laws.proofs.StoreStepKnown.{known_call}
use Rattle.rest_laws.proofs.EpochTreeStarted.{looked_started, named_started}
use Rattle.store_laws.specs.OneTree.Places.{InsideFact, NumberedFact}
use Rattle.store_laws.specs.OneTree.Rest.{Past}
use Rattle.store_laws.proofs.OneTree.Inside.{table_here}
use Rattle.rest_laws.proofs.Asked.{user_rests}
use Rattle.calm_laws.specs.TablesCalm.Shapes.{AnswersLast, CameIn, HoldsListed, IsAnswered, IsNamedIn, IsOwnAnswer, IsRequest, IsRequestOf, IsStat, TableShape}
use Rattle.calm_laws.specs.Carrying.{IsMember, frame_of, held_request, look_body, IsServedByHolders}
use Rattle.calm_laws.specs.Rounds.{AnswersAgain, KnowsLook, look_of}
use Rattle.calm_laws.proofs.CloseAgreed.{past_of}
use Rattle.calm_laws.proofs.Delivered.{inside_fact}
use Rattle.calm_laws.proofs.Facts.{RoundFacts, round_facts}
use Rattle.calm_laws.proofs.Lists.{every_among, row_key}
use Rattle.calm_laws.proofs.LookRequests.{AllLooksAreKnown}
use Rattle.calm_laws.proofs.Members.{sync_is}
use Rattle.calm_laws.proofs.UserParts.{asked_is}
use Rattle.calm_laws.proofs.CalmAnswerOneCall.{LooksIn, IsCaller, look_in, one_caller, open_in}
use Rattle.calm_laws.proofs.CalmAnswerLastTurn.{last_low, not_before}
use Rattle.calm_laws.proofs.CalmAnswerShapes.{shape_of}

pub only_mends : (c : Config) (t : List Line) → Past c t → OnlyMends t
only_mends c t past d w named zero = (known_call c t past.followed past.rest.each d w named).only zero

-- ---- what a look is ----

pub look_asked : (c : Config) (t : List Line) (me : ℕ) (d : CallId) (wanted : Want) (file : FileId) (w : What) (take : ℕ) → AskingIs c t me d wanted (asking.Look file w take) → (wanted ≡ want.Look file w) × (take ≡ tries t d)
look_asked c t me d (want.Look f q) file w take k = (λ i. want.Look (sym k.0 i) (sym k.1 i), k.2)
look_asked c t me d (want.Do inst o) file w take k = absurd k
look_asked c t me d (want.Close inst) file w take k = absurd k
look_asked c t me d (want.Open f m) file w take k = absurd k
look_asked c t me d (want.OpenToMend f) file w take k = absurd k
look_asked c t me d (want.Make group kind sites) file w take k = absurd k
look_asked c t me d (want.Give r) file w take k = absurd k
look_asked c t me d want.Never file w take k = absurd k

look_file : (f g : FileId) (w q : What) → want.Look f w ≡ want.Look g q → f ≡ g
look_file f g w q e = cc

look_what : (f g : FileId) (w q : What) → want.Look f w ≡ want.Look g q → w ≡ q
look_what f g w q e = cc

-- keys of processes of one byte are one to one
pub key_site : (a p b q : ℕ) → p < 256 → q < 256 → process_key a p ≡ process_key b q → a ≡ b
key_site a p b q low small e = omega (arith, low, small, e)

pub key_process : (a p b q : ℕ) → p < 256 → q < 256 → process_key a p ≡ process_key b q → p ≡ q
key_process a p b q low small e = omega (arith, low, small, e)

served_unless : (w : What) → (IsStat w → ⊥) → IsServedByHolders w
served_unless (what.Name component) h = tt
served_unless what.List h = tt
served_unless (what.Whole stamp) h = tt
served_unless what.Stat h = absurd (h tt)

stat_fits : (w : What) (kind : Kind) (size : ℕ) (stamp : Stamp) → w ≡ what.Stat → answers_what w (looked.Stat kind size stamp) ≡ true
stat_fits w kind size stamp e = ap (λ (z : What). answers_what z (looked.Stat kind size stamp)) e

no_fits : (w : What) (why : Refusal) → answers_what w (looked.No why) ≡ true
no_fits w why = refl

stat_no : (kind : Kind) (size : ℕ) (stamp : Stamp) (why : Refusal) → looked.Stat kind size stamp ≡ looked.No why → ⊥
stat_no kind size stamp why e = cc

-- what the synchronization site itself has answered is an answer to such a look
own_fits : (c : Config) (t : List Line) (f : FileId) (w : What) (result : Served) (a : LookAnswer) → IsOwnAnswer a → LookAnswers c t f w result a → answers_what w a ≡ true
own_fits c t f w result (looked.No why) own k = no_fits w why
own_fits c t f w (served.At stamp) (looked.Stat kind size at) own k = stat_fits w kind size at k.1.0
own_fits c t f w (served.No why) (looked.Stat kind size at) own k = absurd (stat_no kind size at why k)
own_fits c t f w result (looked.Found ino kind) own k = absurd own
own_fits c t f w result (looked.Content bytes) own k = absurd own
own_fits c t f w result looked.Moved own k = absurd own

-- ---- a call that asks a look ----

module _ (c : Config) (t : List Line) (past : Past c t) (e : InEpoch) (s css : ℕ) (y : WaitingCall) (k : WaitingFact c t (frame_of c e s) y) where
  abbrev d : CallId
  d = own_call s (boot_in e.members.boot s) y.call

  abbrev here : Frame
  here = frame_of c e css

  abbrev its_call : IsCallIn (entries t) e.id d
  its_call = record { accepted = k.caller; named = k.named; made_in = ap (λ (z : Waiting). z.epoch) k.caller_is }

  process_is : k.caller.process ≡ y.process
  process_is = ap (λ (z : Waiting). z.process) k.caller_is

  pub small : y.process < 256
  small = subst (λ (p : ℕ). p < 256) process_is (known_call c t past.followed past.rest.each d k.caller k.named).small

  pub request_is : y.request ≡ request_number t d
  request_is = k.request_is ∙ ap (λ (xs : List Answer). length xs + 1) k.answers_are

  -- a call that asks something of the group is this one
  pub caller_of : (group : ℕ) → LooksIn group k.caller.words → IsCaller c t e.id group d s y.process
  caller_of group mends = record { inside = its_call; site_is = refl; process_is = process_is; mends = mends }

  -- the call of a packet
  pub packet_caller : (n process group : ℕ) (other : CallId) → (i : IsCallOf t e.id s n process other) → process ≡ y.process → LooksIn group i.inside.accepted.words → IsCaller c t e.id group other s y.process
  packet_caller n process group other i same mends = record { inside = i.inside; site_is = i.site_is; process_is = ap (λ (z : Waiting). z.process) (some_same i.inside.accepted i.caller (sym i.inside.named ∙ i.named)) ∙ (i.process_is ∙ same); mends = mends }

  -- a call of the site with this number is it
  pub call_same : (other : CallId) → IsCallIn (entries t) e.id other → other.site ≡ s → other.n ≡ y.call → other ≡ d
  call_same other i site number = call_is other d site (one_boot c t e.id other d past.followed i its_call site) number

  module _ (few : length c.packs ≤ 4) (file : FileId) (w : What) (take : ℕ) (is : y.asking ≡ asking.Look file w take) (tab : SyncTable) (group_is : tab.group ≡ file.group) (fact : TableFact c t here tab) (sent : List Numbered) (sent_facts : Every (NumberedFact c t) sent) (shape : TableShape c css e (IsNamedIn t) (CameIn sent) tab) (own : IsMember e css) (member : IsMember e s) where
    asks : (k.wanted ≡ want.Look file w) × (take ≡ tries t d)
    asks = look_asked c t s d k.wanted file w take (subst (λ (a : Asking). AskingIs c t s d k.wanted a) is k.asking_is)

    asked : asked_now c t d ≡ want.Look file w
    asked = asked_is c t (frame_of c e s) y k ∙ asks.0

    requests : is_request (asked_now c t d) ≡ true
    requests = ap is_request asked

    its_mends : LooksIn file.group k.caller.words
    its_mends = look_in c t d k.caller file w k.named asked

    it : IsCaller c t e.id file.group d s y.process
    it = caller_of file.group its_mends

    -- ---- the last look ----

    last_known : (l : LastLook) → row look_key (process_key s y.process) tab.looks ≡ Some l → is_look_before (look_of y file w take) l ≡ false
    last_known l found = not_before (look_of y file w take) l (subst (λ (m : ℕ). IsUpTo turn (record { call = y.call; request = m; times = take })) (sym request_is)
        (subst (λ (m : ℕ). IsUpTo turn (record { call = y.call; request = request_number t d; times = m })) (sym asks.1) (last_low c t past.followed (only_mends c t past) e.id file.group s y.process d turn it requests turns)))
      where
        turn : Turn
        turn = record { call = l.call; request = l.request; times = l.take }

        turns : last_turn t e.id file.group s y.process ≡ Some turn
        turns = ap (λ (g : ℕ). last_turn t e.id g s y.process) (sym group_is) ∙ (sym (fact.turns s y.process small) ∙ ap turn_of found)

    -- who asked it
    look_came : (l : LastLook) → Among l tab.looks → (f : FileId) × (q : What) × LookFact c t e.id l.site l.call l.process l.request l.take f q
    look_came l there = (a.1, a.2, came)
      where
        a : IsAnswered e (CameIn sent) l
        a = every_among (IsAnswered e (CameIn sent)) l tab.looks there shape.looks

        x : Numbered
        x = a.3.0

        b : Body
        b = body.Look l.call l.process l.request l.take a.1 a.2

        came : LookFact c t e.id l.site l.call l.process l.request l.take a.1 a.2
        came = subst (λ (i : EpochId). LookFact c t i l.site l.call l.process l.request l.take a.1 a.2) a.3.2
            (subst (λ (from : ℕ). LookFact c t x.packet.epoch from l.call l.process l.request l.take a.1 a.2) a.3.3
            (subst (λ (z : Body). BodyFact c t x.packet z) a.3.4 (every_among (NumberedFact c t) x sent a.3.1 sent_facts)))

    -- it is this look
    record IsIt (l : LastLook) : Type 0 where
      site_is : l.site ≡ s
      process_same : l.process ≡ y.process
      call_same_as : l.call ≡ y.call
      request_same : l.request ≡ y.request
      take_same : l.take ≡ take

    same_it : (l : LastLook) → Among l tab.looks → look_key l ≡ process_key s y.process → is_same_look (look_of y file w take) l ≡ true → IsIt l
    same_it l there key same = record {
      site_is = key_site l.site l.process s y.process low small key;
      process_same = key_process l.site l.process s y.process low small key;
      call_same_as = sym (equal y.call l.call a.0);
      request_same = sym (equal y.request l.request b.0);
      take_same = sym (equal take l.take b.1);
    }
      where
        came : (f : FileId) × (q : What) × LookFact c t e.id l.site l.call l.process l.request l.take f q
        came = look_came l there

        low : l.process < 256
        low = subst (λ (p : ℕ). p < 256) came.2.is_call.process_is (known_call c t past.followed past.rest.each came.2.call came.2.is_call.caller came.2.is_call.named).small

        a : ((y.call == l.call) ≡ true) × (((y.request == l.request) && (take == l.take)) ≡ true)
        a = both_true (y.call == l.call) ((y.request == l.request) && (take == l.take)) same

        b : ((y.request == l.request) ≡ true) × ((take == l.take) ≡ true)
        b = both_true (y.request == l.request) (take == l.take) a.1

    -- a look of the call that stands with this number is this one
    stood : (call : CallId) (request times : ℕ) (f : FileId) (q : What) (result : Served) → WasLooked t e.id call request times f q result → call ≡ d → request ≡ y.request → times ≡ take → (f ≡ file) × (q ≡ w)
    stood call request times f q result was is_call again as_often = (look_file f file q w same, look_what f file q w same)
      where
        so : asked_now c t d ≡ want.Look f q
        so = (looks_so c t past.followed (steady c t past) ((user_rests c few).looks t past).stands e.id d request times f q result (subst (λ (z : CallId). WasLooked t e.id z request times f q result) is_call was) (again ∙ request_is) (as_often ∙ asks.1)).asked

        same : want.Look f q ≡ want.Look file w
        same = sym so ∙ asked

    abbrev Again : LastLook → Type 0
    Again l = AnswersAgain c e css s y file w take l

    answered_again : (l : LastLook) → IsIt l → (b : Body) → l.body ≡ b → AnswersLast e l b → BodyFact c t (packet here l.to b) b → Again l
    answered_again l i (body.LookDone call request times a) is_body h f = inr (record {
      from = css;
      answer = a;
      fits = subst (λ (z : What). answers_what z a ≡ true) same.1 (own_fits c t f.file f.what f.result a h.4 f.answer);
      goes = record { sender = own; receiver = member; is = λ j. packet here (to j) (its_body j) };
    })
      where
        to : l.to ≡ s
        to = h.0 ∙ i.site_is

        its_is : f.call ≡ d
        its_is = f.call_is ∙ (λ j. record { site = to j; boot = boot_in e.members.boot (to j); n = (h.1 ∙ i.call_same_as) j })

        same : (f.file ≡ file) × (f.what ≡ w)
        same = stood f.call request times f.file f.what f.result f.looked_so its_is (h.2 ∙ i.request_same) (h.3 ∙ i.take_same)

        its_body : l.body ≡ body.LookDone y.call y.request take a
        its_body = is_body ∙ (λ j. body.LookDone ((h.1 ∙ i.call_same_as) j) ((h.2 ∙ i.request_same) j) ((h.3 ∙ i.take_same) j) a)
    answered_again l i (body.LookSs us call process request times f q stamp) is_body h g = inl (record {
      css = css;
      holder = l.to;
      stamp = stamp;
      served = served_unless w (λ z. h.6 (subst IsStat (sym same.1) z));
      goes = record { sender = own; receiver = h.0; is = λ j. packet here l.to (its_body j) };
    })
      where
        its_is : g.call ≡ d
        its_is = call_same g.call g.is_call.inside (g.is_call.site_is ∙ (h.1 ∙ i.site_is)) (g.is_call.number_is ∙ (h.2 ∙ i.call_same_as))

        same : (f ≡ file) × (q ≡ w)
        same = stood g.call request times f q (served.At stamp) g.looked_so its_is (h.4 ∙ i.request_same) (h.5 ∙ i.take_same)

        its_body : l.body ≡ body.LookSs s y.call y.process y.request take file w stamp
        its_body = is_body ∙ (λ j. body.LookSs ((h.1 ∙ i.site_is) j) ((h.2 ∙ i.call_same_as) j) ((h.3 ∙ i.process_same) j) ((h.4 ∙ i.request_same) j) ((h.5 ∙ i.take_same) j) (same.0 j) (same.1 j) stamp)
    answered_again l i _ is_body h g = absurd h

    again : (l : LastLook) → row look_key (process_key s y.process) tab.looks ≡ Some l → is_same_look (look_of y file w take) l ≡ true → Again l
    again l found same = answered_again l (same_it l at.0 at.1 same) l.body refl (every_among (IsAnswered e (CameIn sent)) l tab.looks at.0 shape.looks).0 (every_among (λ (z : LastLook). PacketFact c t (packet here z.to z.body)) l tab.looks at.0 fact.looks)
      where
        at : Among l tab.looks × (look_key l ≡ process_key s y.process)
        at = row_key look_key (process_key s y.process) tab.looks l found

    -- ---- what is held ----

    unstarted : (x : Early) → Among x tab.early → IsStarted c t e.id tab.group → ⊥
    unstarted x there begun = nothing tab.early there (fact.early_only (fact.started ∙ begun))
      where
        nothing : (xs : List Early) → Among x xs → xs ≡ [] → ⊥
        nothing [] a z = a
        nothing (q ∷ qs) a z = cons_nil q qs z
          where
            cons_nil : (p : Early) (ps : List Early) → ◌≡◌ {A = List Early} (p ∷ ps) [] → ⊥
            cons_nil p ps q = cc

    held_is : (x : Early) → Among x tab.early → x.site ≡ s → x.process ≡ y.process → (b : Body) → x.body ≡ b → IsRequestOf tab.group x.process b → WaitsIn tab.group x → BodyFact c t (early_packet here x) b → x ≡ held_request s y.process (look_body y file w take)
    held_is x there site process (body.Open serial call who request f how) is_body of waits g = over g.stands
      where
        over : WasNamedIn t e.id f.group (serial_of x.site serial) ⊎ AsksOpen c t e.id g.call request serial f how → x ≡ held_request s y.process (look_body y file w take)
        over (inl named) = absurd (unstarted x there (subst (λ (m : ℕ). IsStarted c t e.id m) of.1 (named_started c e.id f.group (serial_of x.site serial) t past.followed named)))
        over (inr now) = absurd (no_open now.wanted (sym now.asks.asked ∙ (ap (asked_now c t) same ∙ asked)) now.opening_is)
          where
            no_open : (v : Want) → v ≡ want.Look file w → IsOpening c v f how → ⊥
            no_open (want.Look h q) z o = o
            no_open (want.Open h m) z o = cc
            no_open (want.OpenToMend h) z o = cc
            no_open (want.Make m kind sites) z o = cc
            no_open (want.Do i o) z q = q
            no_open (want.Close i) z o = o
            no_open (want.Give r) z o = o
            no_open want.Never z o = o

            group : f.group ≡ file.group
            group = of.1 ∙ group_is

            other : IsCaller c t e.id file.group g.call s y.process
            other = packet_caller call who file.group g.call (subst (λ (m : ℕ). IsCallOf t e.id m call who g.call) site g.is_call) (of.0 ∙ process) (subst (λ (m : ℕ). LooksIn m g.is_call.inside.accepted.words) group (open_in c t g.call g.is_call.inside.accepted now.wanted f how g.is_call.inside.named now.asks.asked now.opening_is))

            same : g.call ≡ d
            same = one_caller c t past.followed (only_mends c t past) e.id file.group g.call d s y.process other it (ap is_request now.asks.asked ∙ now.asks.request) requests
    held_is x there site process (body.Look call who request times f q) is_body of waits g = over g.stands
      where
        group : f.group ≡ file.group
        group = of.1 ∙ group_is

        over : ((result : Served) × WasLooked t e.id g.call request times f q result) ⊎ LooksNow c t g.call request times f q → x ≡ held_request s y.process (look_body y file w take)
        over (inl was) = (let low : IsUnder t e.id g.call request times f.group = looked_low c t past.followed (only_mends c t past) e.id g.call request times f q was.0 was.1 in
            absurd (unstarted x there (subst (λ (m : ℕ). IsStarted c t e.id m) of.1 (looked_started c e.id f.group g.call.site low.inside.accepted.process t past.followed low.last low.last_is))))
        over (inr now) = λ j. record { site = site j; process = process j; body = its_body j }
          where
            other : IsCaller c t e.id file.group g.call s y.process
            other = packet_caller call who file.group g.call (subst (λ (m : ℕ). IsCallOf t e.id m call who g.call) site g.is_call) (of.0 ∙ process) (subst (λ (m : ℕ). LooksIn m g.is_call.inside.accepted.words) group (look_in c t g.call g.is_call.inside.accepted f q g.is_call.inside.named now.asks.asked))

            same : g.call ≡ d
            same = one_caller c t past.followed (only_mends c t past) e.id file.group g.call d s y.process other it (ap is_request now.asks.asked ∙ now.asks.request) requests

            wants : want.Look f q ≡ want.Look file w
            wants = sym now.asks.asked ∙ (ap (asked_now c t) same ∙ asked)

            number : call ≡ y.call
            number = sym g.is_call.number_is ∙ ap (λ (z : CallId). z.n) same

            asks_request : request ≡ y.request
            asks_request = now.request_is ∙ (ap (request_number t) same ∙ sym request_is)

            asks_take : times ≡ take
            asks_take = now.tries_are ∙ (ap (tries t) same ∙ sym asks.1)

            its_body : x.body ≡ look_body y file w take
            its_body = is_body ∙ (λ j. body.Look (number j) ((of.0 ∙ process) j) (asks_request j) (asks_take j) (look_file f file q w wants j) (look_what f file q w wants j))
    held_is x there site process _ is_body of waits g = absurd of

    held : (x : Early) → Among x tab.early → is_early_of s y.process x ≡ true → x ≡ held_request s y.process (look_body y file w take)
    held x there test = held_is x there (equal x.site s a.0) (equal x.process y.process a.1) x.body refl (every_among (IsRequest e (CameIn sent) tab.group) x tab.early there shape.early).0 (every_among (WaitsIn tab.group) x tab.early there fact.early_here) (every_among (λ (z : Early). PacketFact c t (early_packet here z)) x tab.early there fact.early)
      where
        a : ((x.site == s) ≡ true) × ((x.process == y.process) ≡ true)
        a = both_true (x.site == s) (x.process == y.process) test

    pub knows_look : KnowsLook c e css s y file w take tab
    knows_look = record {
      last = λ l found. (last_known l found, again l found);
      holders = λ r found. every_among (λ (z : FileRow). Every (HoldsListed e) z.holders) r tab.files (row_key row_ino file.ino tab.files r found).0 shape.holders;
      held = held;
    }

-- ---- in a round ----

pub looks_known : (c : Config) → AllLooksAreKnown c
looks_known c lines n e w round together s css v u y file what take member here waits is sync there tab found =
    knows_look c w.trace (past_of c w facts) e s css y k round.groups file what take is tab at.1 (table_here c w.trace (frame_of c e css) u inside tab at.0).fact w.sent facts.fact.sent (shape_of c lines n w round e css u tab together own there at.0) own member
  where
    facts : RoundFacts c w
    facts = round_facts c lines n w round

    own : IsMember e css
    own = (sync_is c e file.group css sync).1

    at : Among tab u.tables × (table_group tab ≡ file.group)
    at = row_key table_group file.group u.tables tab found

    inside : InsideFact c (frame_of c e css) w.trace u
    inside = inside_fact c e w css u facts.fact together own there

    k : WaitingFact c w.trace (frame_of c e s) y
    k = every_among (WaitingFact c w.trace (frame_of c e s)) y v.users.waiting waits (inside_fact c e w s v facts.fact together member here).users.inside.inside.calls
