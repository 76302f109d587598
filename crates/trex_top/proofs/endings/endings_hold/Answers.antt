use Rattle.trex_top.proofs.EndsLemmas.{usage, causes, leaves, rounds, run_refuses, check_refuses, measuring_refuses, import_refuses, unfit_refuses, session_breaks, completes}
use Rattle.trex_top.proofs.endings.endings_hold.Goals as goal

pub returns-clause-usage : goal.returns-clause-usage
returns-clause-usage g c a input out notes gates s e = usage input out notes gates a s e

pub returns-clause-causes : goal.returns-clause-causes
returns-clause-causes g c a input out notes gates s e = causes input out notes gates a s e

pub returns-clause-unwritten : goal.returns-clause-unwritten
returns-clause-unwritten g c a input out notes gates s e = leaves input out notes gates a s e

pub returns-clause-rounds : goal.returns-clause-rounds
returns-clause-rounds g c a input out notes gates s e = rounds input out notes gates a s e

pub returns-clause-run_refuses : goal.returns-clause-run_refuses
returns-clause-run_refuses g c ask input out notes gates s refused e = run_refuses input out notes gates ask s refused e

pub returns-clause-check_refuses : goal.returns-clause-check_refuses
returns-clause-check_refuses g c input out notes s refused e = check_refuses input out notes s refused e

pub returns-clause-measuring_refuses : goal.returns-clause-measuring_refuses
returns-clause-measuring_refuses g c text input out notes s bad e = measuring_refuses input out notes text c.one_reading.ensures s bad e

pub returns-clause-import_refuses : goal.returns-clause-import_refuses
returns-clause-import_refuses g c input out notes s bad e = import_refuses input out notes c.one_reading.ensures s bad e

pub returns-clause-unfit_refuses : goal.returns-clause-unfit_refuses
returns-clause-unfit_refuses g c input out notes s is e = unfit_refuses input out notes c.one_reading.ensures s is e

pub returns-clause-session_breaks : goal.returns-clause-session_breaks
returns-clause-session_breaks g c input out notes s broken e = session_breaks input out notes s broken e

pub returns-clause-complete : goal.returns-clause-complete
returns-clause-complete g c a input out notes gates s suits read wrote noted e =
    completes input out notes gates c.one_reading.ensures read wrote noted a s suits e
