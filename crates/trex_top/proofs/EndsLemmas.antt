-- What follows from the tables of the commands: a row for each status that has something to say.
use Rattle.std.proofs.Common.{◌≡◌, ℕ, inl, inr, ◌↔◌, true, false, List, [], ◌∷◌, Option, Some, None, Result, Ok, Err, IfSome, IsErr, refl, sym, subst, ◌∙◌}
use Rattle.trex_crew.specs.Told.{IfTold}
use Rattle.trex_import.specs.Fit.{unfit_of}
use Rattle.trex_io.specs.Seen.{Seen}
use Rattle.trex_measure.specs.Measured.{HasFault, OnCapture}
use Rattle.trex_pcap.specs.declared.fault.CaptureFault.{CaptureFault}
use Rattle.trex_pcap.specs.declared.unfit.Unfit.{Unfit as WhyUnfit}
use Rattle.trex_pcap.specs.Reading.{IsCapture}
use Rattle.trex_profile.specs.declared.refusal.Refusal.{Refusal}
use Rattle.trex_profile.specs.Stream.{Stream}
use Rattle.trex_words.specs.declared.asked.Asked.{Asked}
use Rattle.trex_words.specs.declared.asked.Asked.TheVariants as ask
use Rattle.trex_words.specs.declared.asked.RunAsk.{RunAsk}
use Rattle.trex_words.specs.declared.asked.SampleAsk.{SampleAsk}
use Rattle.trex_words.specs.declared.asked.Usage.{Usage as WordsFault}
use Rattle.trex_top.specs.declared.status.Status.{Status}
use Rattle.trex_top.specs.declared.status.Status.TheVariants.{Done, Usage, Refused, ReadFault, OutFault, NotesFault, BadCapture, Memory, Unfit, BadSession}
use Rattle.trex_top.specs.Endings.{EntersGates, HasItsCause, IsAmong, IsBadCapture, IsFitCapture, IsBroken, IsGoodCapture, IsProfile, IsRefused, IsUnfitCapture, IsUnbroken, Leaves, LeavesOutput, Suits}
use Rattle.trex_top.specs.Ends.{Ends}
use Rattle.trex_top.specs.Ends.Check.{CheckEnds}
use Rattle.trex_top.specs.Ends.Help.{HelpEnds}
use Rattle.trex_top.specs.Ends.Import.{ImportEnds}
use Rattle.trex_top.specs.Ends.Measured.{MeasuredEnds}
use Rattle.trex_top.specs.Ends.Run.{RunEnds}
use Rattle.trex_top.specs.Ends.Sample.{SampleEnds}
use Rattle.trex_top.specs.Ends.Session.{SessionEnds}
use Rattle.trex_report.specs.Texts.{analysis_text}
use Rattle.trex_rpc.specs.declared.bound.Bound.{Bound}
use Rattle.trex_rpc.specs.Heard.{heard}
use Rattle.trex_run.specs.Rounds.{AreRounds}
use Rattle.trex_run.proofs.RoundsLemmas.{tell_no_rounds}
use Rattle.trex_top.specs.Rows.{HasVerdict}
use Rattle.trex_top.specs.Wire.{wire_text}
use Rattle.trex_top.specs.Sides.{Side, GateSide, Failed, Rounds, Unentered, given}

-- ---- a text has one verdict, and a capture one reading

-- a text that breaks a rule is no profile
refused-apart : (text : Option (List ℕ)) (p : List Stream) → IsRefused text → HasVerdict text (Ok p) → ⊥
refused-apart None p refused is = refused
refused-apart (Some text) p (r, other) is = let e : Err r ≡ Ok p = sym other ∙ is in absurd (cc)

-- a profile breaks no rule
profile-apart : (text : Option (List ℕ)) (r : Refusal) → IsProfile text → HasVerdict text (Err r) → ⊥
profile-apart None r profile is = profile
profile-apart (Some text) r (p, other) is = let e : Ok p ≡ Err r = sym other ∙ is in absurd (cc)

-- the bytes of a capture have one reading
abbrev pub OneReading : Type 0
OneReading = (bytes : List ℕ) (rs ss : List Seen) (e f : Option CaptureFault) → IsCapture bytes rs e → IsCapture bytes ss f → (rs ≡ ss) × (e ≡ f)

-- a capture with a fault isn't one without
bad-apart : OneReading → (text : Option (List ℕ)) (P : List Seen → Type 0) → IsBadCapture text → OnCapture text P → ⊥
bad-apart one None P bad good = bad
bad-apart one (Some text) P (e, bad) good =
    let same : Some e ≡ None = (one text bad.0 good.0 (Some e) None bad.1 good.1).1 in absurd (cc)

-- a capture without a fault has none
good-apart : OneReading → (text : Option (List ℕ)) (e : CaptureFault) → IsGoodCapture text → HasFault text e → ⊥
good-apart one None e good bad = good
good-apart one (Some text) e (rs, good) bad =
    let same : None ≡ Some e = (one text rs bad.0 None (Some e) good bad.1).1 in absurd (cc)

-- a capture that makes a profile has no fault
fit-good : (text : Option (List ℕ)) → IsFitCapture text → IsGoodCapture text
fit-good None fit = fit
fit-good (Some text) (rs, is, none) = (rs, is)

-- a capture that makes a profile isn't unfit
fit-apart : OneReading → (text : Option (List ℕ)) (u : WhyUnfit) → IsFitCapture text → OnCapture text (λ rs. unfit_of rs ≡ Some u) → ⊥
fit-apart one None u fit on = fit
fit-apart one (Some text) u (rs, is, none) (ss, other, some) =
    let same : rs ≡ ss = (one text rs ss None None is other).0 in
    let e : None ≡ Some u = sym (subst (λ l. unfit_of l ≡ None) same none) ∙ some in
    absurd (cc)

-- a capture that makes no profile makes none
unfit-apart : OneReading → (text : Option (List ℕ)) (P : List Seen → Type 0) → IsUnfitCapture text → OnCapture text (λ rs. (unfit_of rs ≡ None) × P rs) → ⊥
unfit-apart one None P unfit on = unfit
unfit-apart one (Some text) P (rs, u, is, some) (ss, other, (none, holds)) =
    let same : rs ≡ ss = (one text rs ss None None is other).0 in
    let e : Some u ≡ None = sym (subst (λ l. unfit_of l ≡ Some u) same some) ∙ none in
    absurd (cc)

-- a capture that makes no profile has no fault
unfit-good : (text : Option (List ℕ)) → IsUnfitCapture text → IsGoodCapture text
unfit-good None unfit = unfit
unfit-good (Some text) (rs, u, is, some) = (rs, is)

-- ---- the commands that enter no gate

module _ {S O N : Type 0} (input : Side S) (out : Side O) (notes : Side N) where
  check_causes : (s : Status) → CheckEnds input out notes s → HasItsCause input out notes s
  check_causes ReadFault e = e.0
  check_causes OutFault e = e.2.0
  check_causes NotesFault e = absurd e
  check_causes _ e = tt

  measured_causes : (text : List Seen → List ℕ) (s : Status) → MeasuredEnds text input out notes s → HasItsCause input out notes s
  measured_causes text ReadFault e = e.0
  measured_causes text OutFault e = e.1
  measured_causes text NotesFault e = absurd e
  measured_causes text _ e = tt

  import_causes : (s : Status) → ImportEnds input out notes s → HasItsCause input out notes s
  import_causes ReadFault e = e.0
  import_causes OutFault e = e.1
  import_causes NotesFault e = absurd e
  import_causes _ e = tt

  help_causes : (s : Status) → HelpEnds out notes s → HasItsCause input out notes s
  help_causes OutFault e = e.0
  help_causes ReadFault e = absurd e
  help_causes NotesFault e = absurd e
  help_causes _ e = tt

  check_leaves : (s : Status) → CheckEnds input out notes s → Leaves out s
  check_leaves Done e = tt
  check_leaves OutFault e = tt
  check_leaves Refused e = e.2.0
  check_leaves ReadFault e = e.1.0
  check_leaves Memory e = e.0
  check_leaves _ e = absurd e

  measured_leaves : (text : List Seen → List ℕ) (s : Status) → MeasuredEnds text input out notes s → Leaves out s
  measured_leaves text Done e = tt
  measured_leaves text OutFault e = tt
  measured_leaves text BadCapture e = e.2.0
  measured_leaves text ReadFault e = e.1.0
  measured_leaves text Memory e = e.0
  measured_leaves text _ e = absurd e

  import_leaves : (s : Status) → ImportEnds input out notes s → Leaves out s
  import_leaves Done e = tt
  import_leaves OutFault e = tt
  import_leaves Unfit e = e.3.0
  import_leaves BadCapture e = e.2.0
  import_leaves ReadFault e = e.1.0
  import_leaves Memory e = e.0
  import_leaves _ e = absurd e

  help_leaves : (s : Status) → HelpEnds out notes s → Leaves out s
  help_leaves Done e = tt
  help_leaves OutFault e = tt
  help_leaves _ e = absurd e

  -- a profile that breaks a rule is refused
  pub check_refuses : (s : Status) → IsRefused (given input) → CheckEnds input out notes s → IsAmong s (Refused ∷ ReadFault ∷ Memory ∷ [])
  check_refuses Refused refused e = inl refl
  check_refuses ReadFault refused e = inr (inl refl)
  check_refuses Memory refused e = inr (inr (inl refl))
  check_refuses Done refused e = absurd (refused-apart (given input) e.0 refused e.1)
  check_refuses OutFault refused e = absurd (refused-apart (given input) e.0 refused e.1)
  check_refuses _ refused e = absurd e

  -- a capture with a fault is called bad
  pub measuring_refuses : (text : List Seen → List ℕ) → OneReading → (s : Status) → IsBadCapture (given input) → MeasuredEnds text input out notes s
      → IsAmong s (BadCapture ∷ ReadFault ∷ Memory ∷ [])
  measuring_refuses text one BadCapture bad e = inl refl
  measuring_refuses text one ReadFault bad e = inr (inl refl)
  measuring_refuses text one Memory bad e = inr (inr (inl refl))
  measuring_refuses text one Done bad e = absurd (bad-apart one (given input) _ bad e.0)
  measuring_refuses text one OutFault bad e = absurd (bad-apart one (given input) _ bad e.0)
  measuring_refuses text one _ bad e = absurd e

  pub import_refuses : OneReading → (s : Status) → IsBadCapture (given input) → ImportEnds input out notes s
      → IsAmong s (BadCapture ∷ ReadFault ∷ Memory ∷ [])
  import_refuses one BadCapture bad e = inl refl
  import_refuses one ReadFault bad e = inr (inl refl)
  import_refuses one Memory bad e = inr (inr (inl refl))
  import_refuses one Done bad e = absurd (bad-apart one (given input) _ bad e.0)
  import_refuses one OutFault bad e = absurd (bad-apart one (given input) _ bad e.0)
  import_refuses one Unfit bad e = absurd (bad-apart one (given input) _ bad e.1)
  import_refuses one _ bad e = absurd e

  -- a capture that makes no profile is called unfit
  pub unfit_refuses : OneReading → (s : Status) → IsUnfitCapture (given input) → ImportEnds input out notes s → IsAmong s (Unfit ∷ ReadFault ∷ Memory ∷ [])
  unfit_refuses one Unfit is e = inl refl
  unfit_refuses one ReadFault is e = inr (inl refl)
  unfit_refuses one Memory is e = inr (inr (inl refl))
  unfit_refuses one BadCapture is e = absurd (good-apart one (given input) e.0 (unfit-good (given input) is) e.1)
  unfit_refuses one Done is e = absurd (unfit-apart one (given input) _ is e.0)
  unfit_refuses one OutFault is e = absurd (unfit-apart one (given input) _ is e.0)
  unfit_refuses one _ is e = absurd e

  -- where nothing fails, what is asked is done
  module _ (one : OneReading) (read : ¬ Failed input) (wrote : ¬ Failed out) where
    check_completes : (s : Status) → IsProfile (given input) → CheckEnds input out notes s → IsAmong s (Done ∷ Memory ∷ [])
    check_completes Done profile e = inl refl
    check_completes Memory profile e = inr (inl refl)
    check_completes Refused profile e = absurd (profile-apart (given input) e.0 profile e.1)
    check_completes ReadFault profile e = absurd (read e.0)
    check_completes OutFault profile e = absurd (wrote e.2.0)
    check_completes _ profile e = absurd e

    measured_completes : (text : List Seen → List ℕ) (s : Status) → IsGoodCapture (given input) → MeasuredEnds text input out notes s
        → IsAmong s (Done ∷ Memory ∷ [])
    measured_completes text Done good e = inl refl
    measured_completes text Memory good e = inr (inl refl)
    measured_completes text BadCapture good e = absurd (good-apart one (given input) e.0 good e.1)
    measured_completes text ReadFault good e = absurd (read e.0)
    measured_completes text OutFault good e = absurd (wrote e.1)
    measured_completes text _ good e = absurd e

    import_completes : (s : Status) → IsFitCapture (given input) → ImportEnds input out notes s → IsAmong s (Done ∷ Memory ∷ [])
    import_completes Done fit e = inl refl
    import_completes Memory fit e = inr (inl refl)
    import_completes Unfit fit e = absurd (fit-apart one (given input) e.0 fit e.1)
    import_completes BadCapture fit e = absurd (good-apart one (given input) e.0 (fit-good (given input) fit) e.1)
    import_completes ReadFault fit e = absurd (read e.0)
    import_completes OutFault fit e = absurd (wrote e.1)
    import_completes _ fit e = absurd e

    help_completes : (s : Status) → HelpEnds out notes s → IsAmong s (Done ∷ Memory ∷ [])
    help_completes Done e = inl refl
    help_completes OutFault e = absurd (wrote e.0)
    help_completes _ e = absurd e

-- ---- a session

-- an input without a bound that is broken breaks none
unbroken-apart : (input : Option (List ℕ)) (P Q : List ℕ → Bound → Type 0) → IsUnbroken input
    → IfSome input (λ text. (bound : Bound) × ((heard text).broken ≡ Some bound) × P text bound × Q text bound) → ⊥
unbroken-apart None P Q unbroken broken = unbroken
unbroken-apart (Some text) P Q unbroken broken = let e : Some broken.0 ≡ None = sym broken.1 ∙ unbroken in absurd (cc)

-- an input with a bound that is broken isn't heard to its end
broken-apart : (input : Option (List ℕ)) (P : List ℕ → Type 0) → ((text : List ℕ) → P text → (heard text).broken ≡ None) → IsBroken input → IfSome input P → ⊥
broken-apart None P ended broken e = broken
broken-apart (Some text) P ended broken e = let h : Some broken.0 ≡ None = sym broken.1 ∙ ended text e in absurd (cc)

module _ {S O N : Type 0} (input : Side S) (out : Side O) (notes : Side N) where
  session_causes : (s : Status) → SessionEnds input out notes s → HasItsCause input out notes s
  session_causes ReadFault e = e.0
  session_causes OutFault e = e.0
  session_causes NotesFault e = e.0
  session_causes _ e = tt

  -- an input that breaks a bound makes a bad session
  pub session_breaks : (s : Status) → IsBroken (given input) → SessionEnds input out notes s
      → IsAmong s (BadSession ∷ ReadFault ∷ OutFault ∷ NotesFault ∷ Memory ∷ [])
  session_breaks BadSession broken e = inl refl
  session_breaks ReadFault broken e = inr (inl refl)
  session_breaks OutFault broken e = inr (inr (inl refl))
  session_breaks NotesFault broken e = inr (inr (inr (inl refl)))
  session_breaks Memory broken e = inr (inr (inr (inr (inl refl))))
  session_breaks Done broken e = absurd (broken-apart (given input) _ (λ text spoken. spoken.unbroken) broken e)
  session_breaks _ broken e = absurd e

  -- where nothing fails, a session without such a bound is done
  session_completes : ¬ Failed input → ¬ Failed out → ¬ Failed notes → (s : Status) → IsUnbroken (given input) → SessionEnds input out notes s → IsAmong s (Done ∷ Memory ∷ [])
  session_completes read wrote noted Done unbroken e = inl refl
  session_completes read wrote noted Memory unbroken e = inr (inl refl)
  session_completes read wrote noted ReadFault unbroken e = absurd (read e.0)
  session_completes read wrote noted OutFault unbroken e = absurd (wrote e.0)
  session_completes read wrote noted NotesFault unbroken e = absurd (noted e.0)
  session_completes read wrote noted BadSession unbroken e = absurd (unbroken-apart (given input) _ _ unbroken e)
  session_completes read wrote noted _ unbroken e = absurd e

-- ---- a run and a sample, and then all commands

module _ {S O N G : Type 0} (input : Side S) (out : Side O) (notes : Side N) (gates : GateSide G) where
  -- no request ends with Usage
  never_usage : (a : Asked) → Ends (Ok a) input out notes gates Usage → ⊥
  never_usage (ask.Run a) e = e
  never_usage ask.Check e = e.0
  never_usage ask.Analyze e = e.0
  never_usage (ask.Sample a) e = e.0
  never_usage ask.Import e = e.0
  never_usage (ask.Wire a) e = e.0
  never_usage ask.Session e = e
  never_usage ask.Help e = e.0

  -- words without a meaning end with it
  pub usage : (a : Result Asked WordsFault) (s : Status) → Ends a input out notes gates s → (s ≡ Usage) ↔ IsErr a
  usage (Err u) s e = (λ is. refl, λ err. e.0)
  usage (Ok a) s e = (λ is. absurd (never_usage a (subst (Ends (Ok a) input out notes gates) is e)), λ err. let h : false ≡ true = err in absurd (cc))

  run_causes : (a : RunAsk) (s : Status) → RunEnds a input out notes gates s → HasItsCause input out notes s
  run_causes a ReadFault e = e.0.0
  run_causes a OutFault e = e.2.0
  run_causes a NotesFault e = e.3
  run_causes a _ e = tt

  sample_causes : (a : SampleAsk) (s : Status) → SampleEnds a out notes gates s → HasItsCause input out notes s
  sample_causes a OutFault e = e.0.0
  sample_causes a ReadFault e = absurd e
  sample_causes a NotesFault e = absurd e
  sample_causes a _ e = tt

  -- a fault has its cause
  pub causes : (a : Result Asked WordsFault) (s : Status) → Ends a input out notes gates s → HasItsCause input out notes s
  causes (Err u) s e = subst (HasItsCause input out notes) (sym e.0) tt
  causes (Ok (ask.Run a)) s e = run_causes a s e
  causes (Ok ask.Check) s e = check_causes input out notes s e.0
  causes (Ok ask.Analyze) s e = measured_causes input out notes analysis_text s e.0
  causes (Ok (ask.Sample a)) s e = sample_causes a s e.0
  causes (Ok ask.Import) s e = import_causes input out notes s e.0
  causes (Ok (ask.Wire a)) s e = measured_causes input out notes (wire_text a) s e.0
  causes (Ok ask.Session) s e = session_causes input out notes s e
  causes (Ok ask.Help) s e = help_causes input out notes s e.0

  run_leaves : (a : RunAsk) (s : Status) → RunEnds a input out notes gates s → Leaves out s
  run_leaves a Done e = tt
  run_leaves a OutFault e = tt
  run_leaves a NotesFault e = tt
  run_leaves a Refused e = e.0.2.0
  run_leaves a ReadFault e = e.0.1.0
  run_leaves a Memory e = e.0.0
  run_leaves a _ e = absurd e

  sample_leaves : (a : SampleAsk) (s : Status) → SampleEnds a out notes gates s → Leaves out s
  sample_leaves a Done e = tt
  sample_leaves a OutFault e = tt
  sample_leaves a Memory e = e.0.0
  sample_leaves a _ e = absurd e

  -- before the first write the output is left alone
  pub leaves : (a : Result Asked WordsFault) (s : Status) → Ends a input out notes gates s → LeavesOutput a out s
  leaves (Err u) s e = subst (Leaves out) (sym e.0) e.1.0
  leaves (Ok (ask.Run a)) s e = run_leaves a s e
  leaves (Ok ask.Check) s e = check_leaves input out notes s e.0
  leaves (Ok ask.Analyze) s e = measured_leaves input out notes analysis_text s e.0
  leaves (Ok (ask.Sample a)) s e = sample_leaves a s e.0
  leaves (Ok ask.Import) s e = import_leaves input out notes s e.0
  leaves (Ok (ask.Wire a)) s e = measured_leaves input out notes (wire_text a) s e.0
  leaves (Ok ask.Session) s e = tt
  leaves (Ok ask.Help) s e = help_leaves input out notes s e.0

  -- where no gate was entered, those that tell were entered for no round
  no_rounds : (cores : ℕ) → Unentered gates → Rounds gates cores
  no_rounds cores same =
      subst (λ (l : List G). IfTold gates.entries gates.before l (AreRounds cores)) (sym same) (tell_no_rounds gates.entries cores gates.before)

  run_rounds : (a : RunAsk) (s : Status) → RunEnds a input out notes gates s → Rounds gates a.cores
  run_rounds a Done e = e.5.0
  run_rounds a OutFault e = e.3
  run_rounds a NotesFault e = e.5.0
  run_rounds a Refused e = no_rounds a.cores e.1
  run_rounds a ReadFault e = no_rounds a.cores e.1
  run_rounds a Memory e = no_rounds a.cores e.1
  run_rounds a _ e = absurd e

  sample_rounds : (a : SampleAsk) (s : Status) → SampleEnds a out notes gates s → Rounds gates a.run.cores
  sample_rounds a Done e = e.2.0
  sample_rounds a OutFault e = e.1
  sample_rounds a Memory e = no_rounds a.run.cores e.1
  sample_rounds a _ e = absurd e

  -- the gates are entered for whole rounds
  pub rounds : (a : Result Asked WordsFault) (s : Status) → Ends a input out notes gates s → EntersGates a gates
  rounds (Err u) s e = e.3
  rounds (Ok (ask.Run a)) s e = run_rounds a s e
  rounds (Ok ask.Check) s e = e.1
  rounds (Ok ask.Analyze) s e = e.1
  rounds (Ok (ask.Sample a)) s e = sample_rounds a s e.0
  rounds (Ok ask.Import) s e = e.1
  rounds (Ok (ask.Wire a)) s e = e.1
  rounds (Ok ask.Session) s e = tt
  rounds (Ok ask.Help) s e = e.2

  -- a profile that breaks a rule is refused
  pub run_refuses : (a : RunAsk) (s : Status) → IsRefused (given input) → RunEnds a input out notes gates s → IsAmong s (Refused ∷ ReadFault ∷ Memory ∷ [])
  run_refuses a Refused refused e = inl refl
  run_refuses a ReadFault refused e = inr (inl refl)
  run_refuses a Memory refused e = inr (inr (inl refl))
  run_refuses a Done refused e = absurd (refused-apart (given input) e.0 refused e.1)
  run_refuses a OutFault refused e = absurd (refused-apart (given input) e.0 refused e.1)
  run_refuses a NotesFault refused e = absurd (refused-apart (given input) e.0 refused e.1)
  run_refuses a _ refused e = absurd e

  module _ (one : OneReading) (read : ¬ Failed input) (wrote : ¬ Failed out) (noted : ¬ Failed notes) where
    run_completes : (a : RunAsk) (s : Status) → IsProfile (given input) → RunEnds a input out notes gates s → IsAmong s (Done ∷ Memory ∷ [])
    run_completes a Done profile e = inl refl
    run_completes a Memory profile e = inr (inl refl)
    run_completes a Refused profile e = absurd (profile-apart (given input) e.0.0 profile e.0.1)
    run_completes a ReadFault profile e = absurd (read e.0.0)
    run_completes a OutFault profile e = absurd (wrote e.2.0)
    run_completes a NotesFault profile e = absurd (noted e.3)
    run_completes a _ profile e = absurd e

    sample_completes : (a : SampleAsk) (s : Status) → SampleEnds a out notes gates s → IsAmong s (Done ∷ Memory ∷ [])
    sample_completes a Done e = inl refl
    sample_completes a Memory e = inr (inl refl)
    sample_completes a OutFault e = absurd (wrote e.0.0)
    sample_completes a _ e = absurd e

    -- where nothing fails, what is asked is done
    pub completes : (a : Asked) (s : Status) → Suits a (given input) → Ends (Ok a) input out notes gates s → IsAmong s (Done ∷ Memory ∷ [])
    completes (ask.Run a) s suits e = run_completes a s suits e
    completes ask.Check s suits e = check_completes input out notes one read wrote s suits e.0
    completes ask.Analyze s suits e = measured_completes input out notes one read wrote analysis_text s suits e.0
    completes (ask.Sample a) s suits e = sample_completes a s e.0
    completes ask.Import s suits e = import_completes input out notes one read wrote s suits e.0
    completes (ask.Wire a) s suits e = measured_completes input out notes one read wrote (wire_text a) s suits e.0
    completes ask.Session s suits e = session_completes input out notes read wrote noted s suits e
    completes ask.Help s suits e = help_completes input out notes one read wrote s e.0
