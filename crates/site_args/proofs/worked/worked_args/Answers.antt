use Rattle.site_args.proofs.WorkedArgs as computed
use Rattle.site_args.proofs.worked.worked_args.Goals as goal

pub returns : goal.returns
returns c = record {
  no_words = computed.no_words;
  default_calls = computed.default_calls;
  default_cache = computed.default_cache;
  no_trace = computed.no_trace;
  both = computed.both;
  both_calls = computed.both_calls;
  both_cache = computed.both_cache;
  traced = computed.traced;
  trace = computed.trace;
  one_word = computed.one_word;
  no_calls = computed.no_calls;
  too_many_calls = computed.too_many_calls;
  no_cache = computed.no_cache;
  too_large_cache = computed.too_large_cache;
  no_number = computed.no_number;
  twice = computed.twice;
  traced_twice = computed.traced_twice;
  no_value = computed.no_value;
  no_option = computed.no_option;
  stray_word = computed.stray_word;
  no_database = computed.no_database;
  exported = computed.exported;
  database = computed.database;
  export = computed.export;
  not_compact = computed.not_compact;
  compact = computed.compact;
  check = computed.check;
  must_exist = computed.must_exist;
  may_be_new = computed.may_be_new;
  without_wal = computed.without_wal;
  with_wal = computed.with_wal;
  no_file = computed.no_file;
  two_databases = computed.two_databases;
  served_over_http = computed.served_over_http;
  http = computed.http;
  token_file = computed.token_file;
  served_as_lines = computed.served_as_lines;
  framed = computed.framed;
  one_client = computed.one_client;
  no_token = computed.no_token;
  help = computed.help;
}
