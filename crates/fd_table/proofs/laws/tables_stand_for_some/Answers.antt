use Rattle.fd_table.proofs.TablesLaws.{stood_for, stand_for_some}
use Rattle.fd_table.proofs.laws.tables_stand_for_some.Goals as goal

pub returns : goal.returns
returns c = λ tables. (stood_for tables, stand_for_some tables)
