use Rattle.wire_types.proofs.Spellings.{one_int8, one_int16, one_int32, one_int64, one_string, one_byte_string, one_array_count}
use Rattle.wire_types.proofs.laws.one_spelling.Goals as goal

pub returns-clause-int16 : goal.returns-clause-int16
returns-clause-int16 c = one_int16

pub returns-clause-int32 : goal.returns-clause-int32
returns-clause-int32 c = one_int32

pub returns-clause-string : goal.returns-clause-string
returns-clause-string c = one_string

pub returns-clause-int8 : goal.returns-clause-int8
returns-clause-int8 c = one_int8

pub returns-clause-int64 : goal.returns-clause-int64
returns-clause-int64 c = one_int64

pub returns-clause-byte_string : goal.returns-clause-byte_string
returns-clause-byte_string c = one_byte_string

pub returns-clause-array_count : goal.returns-clause-array_count
returns-clause-array_count c = one_array_count
