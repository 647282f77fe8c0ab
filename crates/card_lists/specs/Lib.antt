-- `Lists` is the tests of three lists, words, place one and place two, and which lists are accepted.
pub mod Lists
