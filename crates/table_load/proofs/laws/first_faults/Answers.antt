use Rattle.table_load.proofs.FirstOfMany.{first_of_records, fault_of_first_record, first_of_fields, fault_of_first_field}
use Rattle.table_load.proofs.laws.first_faults.Goals as goal

pub returns : goal.returns
returns c = record { first_record = first_of_records; from_record = fault_of_first_record; first_field = first_of_fields; from_field = fault_of_first_field }
