-- What a table has of an open that is asked: its row is of this instance and isn't over, no other table of the site has one, and where
-- a request of the process is held, it is this one.
use Rattle.std.proofs.Common.{◌≡◌, ℕ, ◌≤◌, ◌==◌, Bool, true, false, ◌||◌, List, [], ◌∷◌, Option, Some, None, refl, sym, ◌∙◌, ap, subst, ◌⊎◌, inl, inr}
use Rattle.std.specs.List.{list_any}
use Rattle.role_steps.proofs.of_plain_facts.Numbers.{equal}
use Rattle.role_steps.proofs.of_plain_facts.Options.{none_some}
use Rattle.role_steps.proofs.of_plain_facts.Tests.{both_true, true_false}
use Rattle.locus_ids.specs.declared.config.Config.{Config}
use Rattle.locus_ids.specs.declared.ids.CallId.{CallId}
use Rattle.locus_ids.specs.declared.ids.EpochId.{EpochId}
use Rattle.locus_ids.specs.declared.ids.FileId.{FileId}
use Rattle.locus_ids.specs.declared.ids.Mode.{Mode}
use Rattle.locus_ids.specs.declared.ids.Serial.{Serial}
use Rattle.locus_ids.specs.Sizes.{sites_max}
use Rattle.trace_book.specs.Same.{same_serial}
use Rattle.trace_book.specs.declared.operation.Served.{Served}
use Rattle.trace_book.specs.declared.operation.What.{What}
use Rattle.trace_book.specs.declared.record.Record.{Record}
use Rattle.trace_book.specs.declared.record.Record.TheVariants as says
use Rattle.call_rules.specs.declared.want.Want.{Want}
use Rattle.call_rules.specs.declared.want.Want.TheVariants as want
use Rattle.wire_messages.specs.declared.body.Body.{Body}
use Rattle.wire_messages.specs.declared.body.Body.TheVariants as body
use Rattle.wire_messages.specs.declared.body.Opening.{Opening}
use Rattle.wire_messages.specs.declared.body.Opening.TheVariants as how
use Rattle.role_steps.specs.Opens.{open_key, open_row}
use Rattle.role_steps.specs.Own.{Every}
use Rattle.role_steps.specs.Reports.{is_early_of}
use Rattle.role_steps.specs.Requests.{request_packets}
use Rattle.role_steps.specs.Views.{Frame, Told, Shown, boot_in, serial_key, sync_site, to_some}
use Rattle.role_steps.specs.declared.rounds.InEpoch.{InEpoch}
use Rattle.role_steps.specs.declared.synchronizing.Early.{Early}
use Rattle.role_steps.specs.declared.synchronizing.OpenRow.{OpenRow}
use Rattle.role_steps.specs.declared.synchronizing.OpenStage.{OpenStage}
use Rattle.role_steps.specs.declared.synchronizing.OpenStage.TheVariants as stage
use Rattle.role_steps.specs.declared.synchronizing.SyncTable.{SyncTable}
use Rattle.role_steps.specs.declared.users.Asking.{Asking}
use Rattle.role_steps.specs.declared.users.Asking.TheVariants as asking
use Rattle.role_steps.specs.declared.users.WaitingCall.{WaitingCall}
use Rattle.the_run.specs.Kept.{Among}
use Rattle.the_run.specs.Steps.{is_opened_in}
use Rattle.the_run.specs.Worlds.{Numbered, Line}
use Rattle.tree_model.specs.declared.accepted.Waiting.{Waiting}
use Rattle.lawful_trace.specs.TreeRows.{IsCallIn}
use Rattle.tree_laws.specs.Printed.{entries}
use Rattle.tree_laws.specs.Calls.{is_request, request_number}
use Rattle.tree_laws.specs.Following.{IsFollowed, MayTell}
use Rattle.tree_laws.specs.Instances.{AsksOpen, IsOpening, IsStarted}
use Rattle.tree_laws.specs.Packets.{BodyFact, PacketFact, IsCallOf, LooksNow, OpenFact, serial_of}
use Rattle.tree_laws.specs.Past.{NamesHere, NamingRecord, Printed, WasLooked, WasNamed, WasNamedIn, WasReleased}
use Rattle.tree_laws.specs.Processes.{IsUnder}
use Rattle.tree_laws.specs.Serials.{asked_now, is_open_want, serial_asked}
use Rattle.tree_laws.specs.Tables.{MakeAsked, RowFact, StageFact, AskedFact, TableFact, early_packet}
use Rattle.tree_laws.specs.Users.{own_call, AskingIs, WaitingFact}
use Rattle.tree_laws.proofs.Counting.{Opens}
use Rattle.tree_laws.proofs.Looking.{looked_low}
use Rattle.tree_laws.proofs.Names.{same_serial_eq}
use Rattle.tree_laws.proofs.Serials.{one_open, unnamed}
use Rattle.store_laws.proofs.Numbers.{serial_key_eq}
use Rattle.rest_laws.proofs.StoreStepResting.{store_rests}
use Rattle.rest_laws.proofs.EpochTreeStarted.{looked_started, named_started}
use Rattle.store_laws.specs.OneTree.Rest.{Past}
use Rattle.calm_laws.specs.TablesCalm.Shapes.{CameIn, IsMaking, IsNamedIn, IsRequest, IsRequestOf, NamesRecord, NamesTold, RowShape, TableShape}
use Rattle.calm_laws.specs.Carrying.{frame_of, held_request, open_body, own_serial}
use Rattle.calm_laws.proofs.Lists.{every_among, row_key}
use Rattle.calm_laws.proofs.UserParts.{asked_is, open_asked}
use Rattle.store_laws.proofs.AnswerUnasked.{opens_request}
use Rattle.calm_laws.proofs.CalmAnswerOneCall.{LooksIn, IsCaller, look_in, one_caller, open_in}
use Rattle.calm_laws.proofs.CalmAnswerLooksKnown.{caller_of, only_mends, packet_caller, request_is}
use Rattle.calm_laws.proofs.CalmAnswerOpensUnended.{open_unreleased}

-- ---- an instance is named in one group ----

named_in : (t : List Line) (e : EpochId) (group : ℕ) (i : Serial) → IsNamedIn t e group i → WasNamedIn t e group i
named_in [] e group i k = absurd k.1
named_in (x ∷ older) e group i k = over (λ there. named_in older e group i (k.0, there, k.2)) k.1
  where
    by_record : (r : Record) → NamesRecord e group i r → NamesHere e group i older r
    by_record (says.Grant at call inst number m file on place) p = (record { epoch_is = p.0; serial_is = p.1 }, p.2)
    by_record (says.Refuse at call inst number m file why) p = (record { epoch_is = p.0; serial_is = p.1 }, p.2)
    by_record _ p = p

    by_told : (y : Told) → NamesTold e group i y → Printed (NamesHere e group i) older y
    by_told (Shown r) p = by_record r p
    by_told _ p = p

    over : (Among k.0 older → WasNamedIn older e group i) → (k.0 ≡ x) ⊎ Among k.0 older → WasNamedIn (x ∷ older) e group i
    over later (inl same) = inl (by_told x.told (subst (λ (l : Line). NamesTold e group i l.told) same k.2))
    over later (inr there) = inr (later there)

pub named_of : (t : List Line) (e : EpochId) (group : ℕ) (i : Serial) → WasNamedIn t e group i → WasNamed t e i
named_of [] e group i was = was
named_of (x ∷ older) e group i (inr was) = inr (named_of older e group i was)
named_of (x ∷ older) e group i (inl now) = inl (by_told x.told now)
  where
    by_record : (r : Record) → NamesHere e group i older r → NamingRecord e i older r
    by_record (says.Grant at call number inst m file on place) p = p.0
    by_record (says.Refuse at call number inst m file why) p = p.0
    by_record _ p = p

    by_told : (y : Told) → Printed (NamesHere e group i) older y → Printed (NamingRecord e i) older y
    by_told (Shown r) p = by_record r p
    by_told _ p = p

-- whoever names it does so first
record_new : (c : Config) (older : List Line) (r : Record) (e : EpochId) (group : ℕ) (i : Serial) → MayTell c older (Shown r) → NamesHere e group i older r → WasNamed older e i → ⊥
record_new c older (says.Grant at call number inst m file on place) e group i may p was = may.in_time.new (subst (λ (j : Serial). WasNamed older at j) (sym p.0.serial_is) (subst (λ (k : EpochId). WasNamed older k i) (sym p.0.epoch_is) was))
record_new c older (says.Refuse at call number inst m file why) e group i may p was = may.in_time.new (subst (λ (j : Serial). WasNamed older at j) (sym p.0.serial_is) (subst (λ (k : EpochId). WasNamed older k i) (sym p.0.epoch_is) was))
record_new c older _ e group i may p was = absurd p

told_new : (c : Config) (older : List Line) (y : Told) (e : EpochId) (group : ℕ) (i : Serial) → MayTell c older y → Printed (NamesHere e group i) older y → WasNamed older e i → ⊥
told_new c older (Shown r) e group i may p was = record_new c older r e group i may p was
told_new c older _ e group i may p was = absurd p

same_record : (older : List Line) (r : Record) (e : EpochId) (group other : ℕ) (i : Serial) → NamesHere e group i older r → NamesHere e other i older r → group ≡ other
same_record older (says.Grant at call number inst m file on place) e group other i p q = sym p.1 ∙ q.1
same_record older (says.Refuse at call number inst m file why) e group other i p q = sym p.1 ∙ q.1
same_record older _ e group other i p q = absurd p

same_told : (older : List Line) (y : Told) (e : EpochId) (group other : ℕ) (i : Serial) → Printed (NamesHere e group i) older y → Printed (NamesHere e other i) older y → group ≡ other
same_told older (Shown r) e group other i p q = same_record older r e group other i p q
same_told older _ e group other i p q = absurd p

named_once : (c : Config) (t : List Line) → IsFollowed c t → (e : EpochId) (group other : ℕ) (i : Serial) → WasNamedIn t e group i → WasNamedIn t e other i → group ≡ other
named_once c [] h e group other i a b = absurd a
named_once c (x ∷ older) h e group other i (inl a) (inl b) = same_told older x.told e group other i a b
named_once c (x ∷ older) h e group other i (inl a) (inr b) = absurd (told_new c older x.told e group i h.0 a (named_of older e other i b))
named_once c (x ∷ older) h e group other i (inr a) (inl b) = absurd (told_new c older x.told e other i h.0 b (named_of older e group i a))
named_once c (x ∷ older) h e group other i (inr a) (inr b) = named_once c older h.1 e group other i a b

-- ---- one open is of one file ----

pub opening_same : (c : Config) (w : Want) (f g : FileId) (a b : Opening) → IsOpening c w f a → IsOpening c w g b → (f ≡ g) × (a ≡ b)
opening_same c (want.Open file m) f g a b p q = (p.0 ∙ sym q.0, p.1 ∙ sym q.1)
opening_same c (want.OpenToMend file) f g a b p q = (p.0 ∙ sym q.0, p.1 ∙ sym q.1)
opening_same c (want.Make group kind sites) f g a b p q = (λ j. record { group = (p.0 ∙ sym q.0) j; ino = (p.1 ∙ sym q.1) j }, p.2 ∙ sym q.2)
opening_same c (want.Look file w) f g a b p q = absurd p
opening_same c (want.Do i o) f g a b p q = absurd p
opening_same c (want.Close i) f g a b p q = absurd p
opening_same c (want.Give r) f g a b p q = absurd p
opening_same c want.Never f g a b p q = absurd p

-- a row that some table has under this name
pub record HasRow (inst : Serial) (t : SyncTable) : Type 0 where
  pub row : OpenRow
  pub there : Among row t.opens
  pub name : row.inst ≡ inst

any_row : (inst : Serial) (t : SyncTable) (xs : List OpenRow) → ((r : OpenRow) → Among r xs → Among r t.opens) → list_any (λ (r : OpenRow). same_serial r.inst inst) xs ≡ true → HasRow inst t
any_row inst t [] f h = absurd (true_false (sym h))
any_row inst t (x ∷ xs) f h = over (same_serial x.inst inst) refl (any_row inst t xs (λ r a. f r (inr a))) h
  where
    over : (b : Bool) → same_serial x.inst inst ≡ b → (list_any (λ (r : OpenRow). same_serial r.inst inst) xs ≡ true → HasRow inst t) → (b || list_any (λ (r : OpenRow). same_serial r.inst inst) xs) ≡ true → HasRow inst t
    over true e later k = record { row = x; there = f x (inl refl); name = same_serial_eq x.inst inst e }
    over false e later k = later k

pub opened_row : (inst : Serial) (t : SyncTable) → is_opened_in inst t ≡ true → HasRow inst t
opened_row inst t h = any_row inst t t.opens (λ r a. a) h

-- ---- other tables haven't it ----

module _ (c : Config) (t : List Line) (past : Past c t) (e : InEpoch) (css : ℕ) where
  abbrev here : Frame
  here = frame_of c e css

  -- a table of the site, with its shape
  pub record IsTable (sent : List Numbered) (tab : SyncTable) : Type 0 where
    pub fact : TableFact c t here tab
    pub shape : TableShape c css e (IsNamedIn t) (CameIn sent) tab

  making : (r : OpenRow) (group : ℕ) → (k : RowFact c t e.id group r) → IsMaking r → MakeAsked c t e.id r k.call
  making r group k m = subst (λ (z : Mode). AskedFact c t e.id r k.call z) m.1 (subst (λ (z : OpenStage). StageFact c t e.id r k.call z) m.0 k.stage)

  module _ (us serial n process request : ℕ) (file : FileId) (q : Opening) (k : OpenFact c t e.id us serial n process request file q) where
    abbrev inst : Serial
    inst = serial_of us serial

    user : inst.us ≡ k.call.site
    user = sym k.is_call.site_is

    -- what is asked still isn't named
    asks_unnamed : AsksOpen c t e.id k.call request serial file q → WasNamed t e.id inst → ⊥
    asks_unnamed a named = unnamed c t e.id k.call request inst file q past.followed a user named

    made_here : (r : OpenRow) (group : ℕ) (rf : RowFact c t e.id group r) → r.inst ≡ inst → IsMaking r → file.group ≡ group
    made_here r group rf name m = over k.stands
      where
        a : MakeAsked c t e.id r rf.call
        a = making r group rf m

        asks : AsksOpen c t e.id a.make.call a.make.request serial a.make.file (how.Make r.set r.kind)
        asks = subst (λ (j : Serial). AsksOpen c t e.id a.make.call a.make.request j.serial a.make.file (how.Make r.set r.kind)) name a.make.asks

        over : WasNamedIn t e.id file.group inst ⊎ AsksOpen c t e.id k.call request serial file q → file.group ≡ group
        over (inl named) = absurd (unnamed c t e.id a.make.call a.make.request inst a.make.file (how.Make r.set r.kind) past.followed asks (ap (λ (j : Serial). j.us) (sym name) ∙ a.make.user_is) (named_of t e.id file.group inst named))
        over (inr now) = ap (λ (z : FileId). z.group) (opening_same c asks.wanted file a.make.file q (how.Make r.set r.kind) (subst (λ (z : Want). IsOpening c z file q) wants now.opening_is) asks.opening_is).0 ∙ (a.make.group_is ∙ rf.group_is)
          where
            same : k.call ≡ a.make.call
            same = one_open c t e.id k.call a.make.call request a.make.request serial file a.make.file q (how.Make r.set r.kind) past.followed now asks (sym user ∙ (ap (λ (j : Serial). j.us) (sym name) ∙ a.make.user_is))

            wants : now.wanted ≡ asks.wanted
            wants = sym now.asks.asked ∙ (ap (asked_now c t) same ∙ asks.asks.asked)

    named_here : (r : OpenRow) (group : ℕ) → r.inst ≡ inst → IsNamedIn t e.id group r.inst → file.group ≡ group
    named_here r group name z = over k.stands
      where
        was : WasNamedIn t e.id group inst
        was = subst (λ (j : Serial). WasNamedIn t e.id group j) name (named_in t e.id group r.inst z)

        over : WasNamedIn t e.id file.group inst ⊎ AsksOpen c t e.id k.call request serial file q → file.group ≡ group
        over (inl named) = named_once c t past.followed e.id file.group group inst named was
        over (inr now) = absurd (asks_unnamed now (named_of t e.id group inst was))

    -- the table that has the instance is that of the group
    pub opened_here : (sent : List Numbered) (tab : SyncTable) → IsTable sent tab → is_opened_in inst tab ≡ true → file.group ≡ tab.group
    opened_here sent tab it h = over shape.was_named
      where
        r : HasRow inst tab
        r = opened_row inst tab h

        rf : RowFact c t e.id tab.group r.row
        rf = every_among (RowFact c t e.id tab.group) r.row tab.opens r.there it.fact.opens

        shape : RowShape e (IsNamedIn t e.id tab.group) tab.group r.row
        shape = every_among (RowShape e (IsNamedIn t e.id tab.group) tab.group) r.row tab.opens r.there it.shape.opens

        over : IsMaking r.row ⊎ IsNamedIn t e.id tab.group r.row.inst → file.group ≡ tab.group
        over (inl m) = made_here r.row tab.group rf r.name m
        over (inr z) = named_here r.row tab.group r.name z

  -- ---- rows are of sites 1 to 16 ----

  pub row_low : (sent : List Numbered) (tab : SyncTable) → IsTable sent tab → (r : OpenRow) → Among r tab.opens → r.inst.us ≤ sites_max
  row_low sent tab it r there = (let k : RowFact c t e.id tab.group r = every_among (RowFact c t e.id tab.group) r tab.opens there it.fact.opens in subst (λ (z : ℕ). z ≤ sites_max) k.is_call.site_is ((store_rests c t past).sites e.id k.call k.is_call.inside))

  pub caller_low : (us n process : ℕ) (d : CallId) → IsCallOf t e.id us n process d → us ≤ sites_max
  caller_low us n process d k = subst (λ (z : ℕ). z ≤ sites_max) k.site_is ((store_rests c t past).sites e.id d k.inside)

  -- ---- a call that asks an open ----

  module _ (s : ℕ) (y : WaitingCall) (k : WaitingFact c t (frame_of c e s) y) (serial : ℕ) (file : FileId) (q : Opening) (is : y.asking ≡ asking.Open serial file q) where
    abbrev d : CallId
    d = own_call s (boot_in e.members.boot s) y.call

    abbrev own : Serial
    own = own_serial s serial

    asking_is : AskingIs c t s d k.wanted (asking.Open serial file q)
    asking_is = subst (λ (a : Asking). AskingIs c t s d k.wanted a) is k.asking_is

    opening : (w : Want) → AskingIs c t s d w (asking.Open serial file q) → IsOpening c w file q
    opening (want.Open f m) a = a.0
    opening (want.OpenToMend f) a = a.0
    opening (want.Make group kind sites) a = a.0
    opening (want.Look f w) a = absurd a.0
    opening (want.Do i o) a = absurd a.0
    opening (want.Close i) a = absurd a.0
    opening (want.Give r) a = absurd a.0
    opening want.Never a = absurd a.0

    asked : asked_now c t d ≡ k.wanted
    asked = asked_is c t (frame_of c e s) y k

    number : (is_open_want k.wanted ≡ true) × (serial ≡ serial_asked c t d)
    number = open_asked c t s d k.wanted serial file q asking_is

    opens : Opens c t d
    opens = ap is_open_want asked ∙ number.0

    requests : is_request (asked_now c t d) ≡ true
    requests = opens_request (asked_now c t d) opens

    abbrev its_call : IsCallIn (entries t) e.id d
    its_call = record { accepted = k.caller; named = k.named; made_in = ap (λ (z : Waiting). z.epoch) k.caller_is }

    it : IsCaller c t e.id file.group d s y.process
    it = caller_of c t past e s css y k file.group (open_in c t d k.caller k.wanted file q k.named asked (opening k.wanted asking_is))

    -- the fact of its packet
    pub its_fact : sync_site c e.members file.group ≡ Some css → OpenFact c t e.id s serial y.call y.process y.request file q
    its_fact sync = over (sync_site c e.members file.group) sync (subst (λ (a : Asking). Every (PacketFact c t) (request_packets (frame_of c e s) y a)) is k.sent)
      where
        over : (o : Option ℕ) → o ≡ Some css → Every (PacketFact c t) (to_some (frame_of c e s) (open_body y serial file q) o) → OpenFact c t e.id s serial y.call y.process y.request file q
        over None z h = absurd (none_some css z)
        over (Some to) z h = h.0

    -- its row is of this instance, and isn't over
    pub row_well : s ≤ sites_max → (sent : List Numbered) (tab : SyncTable) → IsTable sent tab → (r : OpenRow) → open_row tab own ≡ Some r → (r.inst ≡ own) × (r.stage ≡ stage.Ended → ⊥)
    row_well low sent tab has r found = (name, λ z. open_unreleased c t past.followed e.id d own its_call opens (sym number.1) refl (subst (λ (j : Serial). WasReleased t e.id j) name (ended z)))
      where
        at : Among r tab.opens × (open_key r ≡ serial_key own)
        at = row_key open_key (serial_key own) tab.opens r found

        name : r.inst ≡ own
        name = serial_key_eq r.inst own (row_low sent tab has r at.0) low at.1

        rf : RowFact c t e.id tab.group r
        rf = every_among (RowFact c t e.id tab.group) r tab.opens at.0 has.fact.opens

        ended : r.stage ≡ stage.Ended → WasReleased t e.id r.inst
        ended z = (subst (λ (g : OpenStage). StageFact c t e.id r rf.call g) z rf.stage).1

    -- ---- what is held ----

    no_look : (v : Want) → v ≡ k.wanted → is_open_want k.wanted ≡ true → (f : FileId) (w : What) → v ≡ want.Look f w → ⊥
    no_look v z o f w l = true_false (sym o ∙ ap is_open_want (sym z ∙ l))

    unstarted : (tab : SyncTable) → TableFact c t here tab → (x : Early) → Among x tab.early → IsStarted c t e.id tab.group → ⊥
    unstarted tab fact x there begun = nothing tab.early there (fact.early_only (fact.started ∙ begun))
      where
        cons_nil : (p : Early) (ps : List Early) → ◌≡◌ {A = List Early} (p ∷ ps) [] → ⊥
        cons_nil p ps z = cc

        nothing : (xs : List Early) → Among x xs → xs ≡ [] → ⊥
        nothing [] a z = a
        nothing (p ∷ ps) a z = cons_nil p ps z

    held_is : (tab : SyncTable) → TableFact c t here tab → tab.group ≡ file.group → (x : Early) → Among x tab.early → x.site ≡ s → x.process ≡ y.process → (b : Body) → x.body ≡ b → IsRequestOf tab.group x.process b → BodyFact c t (early_packet here x) b → x ≡ held_request s y.process (open_body y serial file q)
    held_is tab fact group_is x there site process (body.Open nth call who request f way) is_body of g = over g.stands
      where
        group : f.group ≡ file.group
        group = of.1 ∙ group_is

        over : WasNamedIn t e.id f.group (serial_of x.site nth) ⊎ AsksOpen c t e.id g.call request nth f way → x ≡ held_request s y.process (open_body y serial file q)
        over (inl named) = absurd (unstarted tab fact x there (subst (λ (m : ℕ). IsStarted c t e.id m) of.1 (named_started c e.id f.group (serial_of x.site nth) t past.followed named)))
        over (inr now) = λ j. record { site = site j; process = process j; body = its_body j }
          where
            other : IsCaller c t e.id file.group g.call s y.process
            other = packet_caller c t past e s css y k call who file.group g.call (subst (λ (m : ℕ). IsCallOf t e.id m call who g.call) site g.is_call) (of.0 ∙ process) (subst (λ (m : ℕ). LooksIn m g.is_call.inside.accepted.words) group (open_in c t g.call g.is_call.inside.accepted now.wanted f way g.is_call.inside.named now.asks.asked now.opening_is))

            same : g.call ≡ d
            same = one_caller c t past.followed (only_mends c t past) e.id file.group g.call d s y.process other it (ap is_request now.asks.asked ∙ now.asks.request) requests

            wants : now.wanted ≡ k.wanted
            wants = sym now.asks.asked ∙ (ap (asked_now c t) same ∙ asked)

            same_open : (f ≡ file) × (way ≡ q)
            same_open = opening_same c k.wanted f file way q (subst (λ (v : Want). IsOpening c v f way) wants now.opening_is) (opening k.wanted asking_is)

            call_number : call ≡ y.call
            call_number = sym g.is_call.number_is ∙ ap (λ (z : CallId). z.n) same

            asks_request : request ≡ y.request
            asks_request = now.request_is ∙ (ap (request_number t) same ∙ sym (request_is c t past e s css y k))

            asks_serial : nth ≡ serial
            asks_serial = now.serial_is ∙ (ap (serial_asked c t) same ∙ sym (open_asked c t s d k.wanted serial file q asking_is).1)

            its_body : x.body ≡ open_body y serial file q
            its_body = is_body ∙ (λ j. body.Open (asks_serial j) (call_number j) ((of.0 ∙ process) j) (asks_request j) (same_open.0 j) (same_open.1 j))
    held_is tab fact group_is x there site process (body.Look call who request times f w) is_body of g = absurd (over g.stands)
      where
        group : f.group ≡ file.group
        group = of.1 ∙ group_is

        over : ((result : Served) × WasLooked t e.id g.call request times f w result) ⊎ LooksNow c t g.call request times f w → ⊥
        over (inl was) = (let low : IsUnder t e.id g.call request times f.group = looked_low c t past.followed (only_mends c t past) e.id g.call request times f w was.0 was.1 in
            unstarted tab fact x there (subst (λ (m : ℕ). IsStarted c t e.id m) of.1 (looked_started c e.id f.group g.call.site low.inside.accepted.process t past.followed low.last low.last_is)))
        over (inr now) = no_look (asked_now c t d) asked number.0 f w (ap (asked_now c t) (sym same) ∙ now.asks.asked)
          where
            other : IsCaller c t e.id file.group g.call s y.process
            other = packet_caller c t past e s css y k call who file.group g.call (subst (λ (m : ℕ). IsCallOf t e.id m call who g.call) site g.is_call) (of.0 ∙ process) (subst (λ (m : ℕ). LooksIn m g.is_call.inside.accepted.words) group (look_in c t g.call g.is_call.inside.accepted f w g.is_call.inside.named now.asks.asked))

            same : g.call ≡ d
            same = one_caller c t past.followed (only_mends c t past) e.id file.group g.call d s y.process other it (ap is_request now.asks.asked ∙ now.asks.request) requests
    held_is tab fact group_is x there site process _ is_body of g = absurd of

    pub open_held : (sent : List Numbered) (tab : SyncTable) → IsTable sent tab → tab.group ≡ file.group → (x : Early) → Among x tab.early → is_early_of s y.process x ≡ true → x ≡ held_request s y.process (open_body y serial file q)
    open_held sent tab has group_is x there test = held_is tab has.fact group_is x there (equal x.site s a.0) (equal x.process y.process a.1) x.body refl (every_among (IsRequest e (CameIn sent) tab.group) x tab.early there has.shape.early).0 (every_among (λ (z : Early). PacketFact c t (early_packet here z)) x tab.early there has.fact.early)
      where
        a : ((x.site == s) ≡ true) × ((x.process == y.process) ≡ true)
        a = both_true (x.site == s) (x.process == y.process) test
