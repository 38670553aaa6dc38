-- `tell` meets its contract.
use Rattle.dts.proofs.Codes.{told-done, told-refused}
use Rattle.dts.proofs.tell.Goals as goal

pub returns-in-Ok : goal.returns-in-Ok
returns-in-Ok c = told-done c.in-Ok.is

pub returns-in-Err : goal.returns-in-Err
returns-in-Err c = told-refused c.in-Err.is c.from.ensures
