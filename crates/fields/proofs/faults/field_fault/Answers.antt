use Rattle.rules.specs.Fields.{fault_of, largest_short, largest_long, largest_ttl}
use Rattle.fields.proofs.FieldFault.{as_meant, needed_of, optional_of}
use borrow.Author.Rules.{rules}
use Rattle.fields.proofs.faults.field_fault.Goals as goal

pub enum_told-1 : goal.enum_told-1
enum_told-1 c = search (as_meant, needed_of, optional_of, rules)

pub enum_told-in-Target : goal.enum_told-in-Target
enum_told-in-Target c = search (as_meant, needed_of, optional_of, rules)

pub enum_told-in-HostPart : goal.enum_told-in-HostPart
enum_told-in-HostPart c = search (as_meant, needed_of, optional_of, rules)

pub enum_told-in-Address : goal.enum_told-in-Address
enum_told-in-Address c = search (as_meant, needed_of, optional_of, rules)

pub enum_told-in-OptionalAddress : goal.enum_told-in-OptionalAddress
enum_told-in-OptionalAddress c = search (as_meant, needed_of, optional_of, rules)

pub enum_told-in-Short : goal.enum_told-in-Short
enum_told-in-Short c = search (as_meant, needed_of, optional_of, rules)

pub enum_told-in-Long : goal.enum_told-in-Long
enum_told-in-Long c = search (as_meant, needed_of, optional_of, rules)

pub enum_told-in-Port : goal.enum_told-in-Port
enum_told-in-Port c = search (as_meant, needed_of, optional_of, rules)

pub enum_told-in-RecordType : goal.enum_told-in-RecordType
enum_told-in-RecordType c = search (as_meant, needed_of, optional_of, rules)

pub enum_told-in-Ttl : goal.enum_told-in-Ttl
enum_told-in-Ttl c = search (as_meant, needed_of, optional_of, rules)

pub enum_told-in-Time : goal.enum_told-in-Time
enum_told-in-Time c = search (as_meant, needed_of, optional_of, rules)

pub enum_told-in-Lo : goal.enum_told-in-Lo
enum_told-in-Lo c = search (as_meant, needed_of, optional_of, rules)

pub enum_told-in-LocationLo : goal.enum_told-in-LocationLo
enum_told-in-LocationLo c = search (as_meant, needed_of, optional_of, rules)

pub enum_told-in-Prefix : goal.enum_told-in-Prefix
enum_told-in-Prefix c = search (as_meant, needed_of, optional_of, rules)

pub enum_told-in-Text : goal.enum_told-in-Text
enum_told-in-Text c = search (as_meant, needed_of, optional_of, rules)

pub returns-in-Owner : goal.returns-in-Owner
unfolding fault_of largest_short largest_long largest_ttl
returns-in-Owner c = search (as_meant, needed_of, optional_of, rules)

pub returns-in-Target : goal.returns-in-Target
unfolding fault_of largest_short largest_long largest_ttl
returns-in-Target c = search (as_meant, needed_of, optional_of, rules)

pub returns-in-HostPart : goal.returns-in-HostPart
unfolding fault_of largest_short largest_long largest_ttl
returns-in-HostPart c = search (as_meant, needed_of, optional_of, rules)

pub returns-in-Address : goal.returns-in-Address
unfolding fault_of largest_short largest_long largest_ttl
returns-in-Address c = search (as_meant, needed_of, optional_of, rules)

pub returns-in-OptionalAddress : goal.returns-in-OptionalAddress
unfolding fault_of largest_short largest_long largest_ttl
returns-in-OptionalAddress c = search (as_meant, needed_of, optional_of, rules)

pub returns-in-Short : goal.returns-in-Short
unfolding fault_of largest_short largest_long largest_ttl
returns-in-Short c = search (as_meant, needed_of, optional_of, rules)

pub returns-in-Long : goal.returns-in-Long
unfolding fault_of largest_short largest_long largest_ttl
returns-in-Long c = search (as_meant, needed_of, optional_of, rules)

pub returns-in-Port : goal.returns-in-Port
unfolding fault_of largest_short largest_long largest_ttl
returns-in-Port c = search (as_meant, needed_of, optional_of, rules)

pub returns-in-RecordType : goal.returns-in-RecordType
unfolding fault_of largest_short largest_long largest_ttl
returns-in-RecordType c = search (as_meant, needed_of, optional_of, rules)

pub returns-in-Ttl : goal.returns-in-Ttl
unfolding fault_of largest_short largest_long largest_ttl
returns-in-Ttl c = search (as_meant, needed_of, optional_of, rules)

pub returns-in-Time : goal.returns-in-Time
unfolding fault_of largest_short largest_long largest_ttl
returns-in-Time c = search (as_meant, needed_of, optional_of, rules)

pub returns-in-Lo : goal.returns-in-Lo
unfolding fault_of largest_short largest_long largest_ttl
returns-in-Lo c = search (as_meant, needed_of, optional_of, rules)

pub returns-in-LocationLo : goal.returns-in-LocationLo
unfolding fault_of largest_short largest_long largest_ttl
returns-in-LocationLo c = search (as_meant, needed_of, optional_of, rules)

pub returns-in-Prefix : goal.returns-in-Prefix
unfolding fault_of largest_short largest_long largest_ttl
returns-in-Prefix c = search (as_meant, needed_of, optional_of, rules)

pub returns-in-Text : goal.returns-in-Text
unfolding fault_of largest_short largest_long largest_ttl
returns-in-Text c = search (as_meant, needed_of, optional_of, rules)
